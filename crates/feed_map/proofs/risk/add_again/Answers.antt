use Rattle.std.proofs.Common.{refl, slice_index_or}
use Rattle.feed_map.proofs.RiskFacts.{again-more}
use Rattle.feed_map.proofs.risk.add_again.Goals as goal

pub each-preserved : goal.each-preserved
each-preserved c =
    again-more c.args.model.now c.args.kept.now c.args.risk.now c.each.place (slice_index_or c.args.risk.now c.each.place 0) c.each-test.true refl
    c.args.growth.now c.each.growth c.add_if_fed.new.growth c.each.invariant c.in_ok-add_if_fed.ensures
