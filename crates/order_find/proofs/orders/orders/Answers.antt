use Rattle.std.proofs.Common.{◌<◌, ◌∙◌, ap, arith, length}
use Rattle.cube_space.specs.Layout.{Layout}
use Rattle.rule_model.specs.BoundModel.{BoundModel}
use Rattle.order_find.proofs.Least.{node-ranks, orders-more}
use Rattle.order_find.proofs.orders.orders.Goals as goal

pub loop-cube-preserved : goal.loop-cube-preserved
loop-cube-preserved c =
    let p = c.args.graph.now in
    let count = c.cubes-cube-end.ensures ∙ ap (λ (s : Layout). length s.cubes) c.space.ensures.space ∙ ap (λ (m : BoundModel). length m.space.cubes) c.model.ensures.model in
    let low : c.loop-cube.cube < length p.model.space.cubes = omega (arith, c.loop-cube-test.true, count) in
    orders-more p c.args.ranks.now c.loop-cube.cube c.loop-cube.orders.items c.push.new.self.items c.in_ok-order.field-0 low
    c.in_ok-push.ensures.items c.loop-cube.invariant c.in_ok-order.ensures

pub returns-clause-ranks : goal.returns-clause-ranks
returns-clause-ranks c = node-ranks c.args.graph.now c.args.ranks.now (λ k. omega (arith, c.type_inv.ranks k))
