use Rattle.order_find.proofs.Least.{ranks-more}
use Rattle.order_find.proofs.orders.cut.Goals as goal

pub loop-element-preserved : goal.loop-element-preserved
loop-element-preserved c =
    ranks-more c.args.graph.now c.args.ranks.now c.args.cube c.args.kind c.loop-element.element c.number.result
    c.loop-element.own.items c.push.new.self.items c.in_ok-push.ensures.items c.loop-element.invariant c.number.ensures.number
