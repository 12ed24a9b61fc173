use Rattle.std.proofs.Common.{ap, arith, length}
use Rattle.cube_space.specs.Layout.{axes}
use Rattle.rule_model.specs.BoundModel.{BoundModel}
use Rattle.ref_order.proofs.Axes.{few-axes}
use Rattle.order_find.proofs.orders.positions.Goals as goal

pub overflow_cast-last_of : goal.overflow_cast-last_of
overflow_cast-last_of c =
    let p = c.args.graph.now in
    let few = few-axes p.model.space c.args.cube c.model-model.ensures.plan.valid c.requires.cube in
    let same = ap (λ (m : BoundModel). length (axes m.space c.args.cube)) c.model-model.ensures.model in
    omega (arith, c.last_of.ensures.within, few, same)
