use Rattle.std.proofs.Common.{arith, sym, subst, ℕ, ◌<◌, length}
use Rattle.std.specs.Prelude.{slice_index_or}
use Rattle.cube_space.specs.Layout.{sizes}
use Rattle.ref_order.proofs.Args.{args-fit, fixed-below, arg-low}
use Rattle.ref_order.proofs.named.+fixed_sum.Goals as goal

pub worth-requires-clause-dim : goal.worth-requires-clause-dim
worth-requires-clause-dim t c =
    let long = args-fit c.args.target.model.now.space c.args.cube c.args.target.cube c.args.reference.now c.requires.reference c.requires.cube in
    let low : c.args.from < length c.args.reference.now.args = arg-low c.args.from c.as_slice-args.result.now c.args.reference.now.args c.as_slice-args.ensures c.if-from-args.false c.requires.from in
    omega (arith, long, low)

pub worth-requires-clause-element : goal.worth-requires-clause-element
worth-requires-clause-element t c =
    subst (λ (k : ℕ). c.in-Fixed.element < slice_index_or (sizes c.args.target.model.now.space k) c.args.from 0) (sym c.requires.cube)
    (fixed-below c.args.target.model.now.space c.args.cube c.args.reference.now c.as_slice-args.result.now c.args.from c.in-Fixed.element c.index-args-from.result c.requires.reference c.as_slice-args.ensures
    (arg-low c.args.from c.as_slice-args.result.now c.args.reference.now.args c.as_slice-args.ensures c.if-from-args.false c.requires.from) c.index-args-from.is c.in-Fixed.is)
