use Rattle.std.proofs.Common.{arith}
use Rattle.ref_order.proofs.Args.{args-few}
use Rattle.ref_order.proofs.excess.named_start.Goals as goal

pub fixed_sum-requires-clause-few : goal.fixed_sum-requires-clause-few
fixed_sum-requires-clause-few c = args-few c.args.model.now.space c.args.cube c.args.reference.now c.space-space.ensures.valid c.requires.read

pub overflow_add-result : goal.overflow_add-result
overflow_add-result c =
    let few = args-few c.args.model.now.space c.args.cube c.args.reference.now c.space-space.ensures.valid c.requires.read in
    let low = c.fixed_sum.ensures.size in
    omega (arith, few, low)

pub returns-clause-size : goal.returns-clause-size
returns-clause-size c =
    let few = args-few c.args.model.now.space c.args.cube c.args.reference.now c.space-space.ensures.valid c.requires.read in
    let low = c.fixed_sum.ensures.size in
    omega (arith, few, low)
