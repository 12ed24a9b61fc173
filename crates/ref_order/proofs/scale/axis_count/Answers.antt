use Rattle.std.proofs.Common.{arith}
use Rattle.ref_order.proofs.Axes.{count-is, few-axes}
use Rattle.ref_order.proofs.scale.axis_count.Goals as goal

pub returns-clause-count : goal.returns-clause-count
returns-clause-count c =
    count-is c.args.model.now.space c.space.result.now c.args.cube c.shape.result.now c.as_slice.result.now c.space.ensures.space c.space.ensures.valid c.shape.ensures c.as_slice.ensures

pub returns-clause-few : goal.returns-clause-few
returns-clause-few c = omega (arith, returns-clause-count c, few-axes c.args.model.now.space c.args.cube c.space.ensures.valid c.requires)
