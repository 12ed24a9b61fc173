use Rattle.rule_model.specs.Order.{position_size}
use Rattle.rule_dense.proofs.Ranges.{map-push}
use Rattle.rule_dense.proofs.order.position_sizes.Goals as goal

pub loop-place-preserved : goal.loop-place-preserved
loop-place-preserved c =
    map-push (position_size c.args.model.now) c.loop-place.sizes.items c.push.new.self.items c.loop-place.place c.position_size.result c.in_ok-push.ensures.items c.loop-place.invariant c.position_size.ensures
