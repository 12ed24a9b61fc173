use Rattle.std.proofs.Common.{rules, ◌≡◌, false, refl, slice_index_or}
use Rattle.feed_map.specs.Inside.Gains.{StopsBy}
use Rattle.feed_map.specs.Inside.Follows.{FeedsFrom}
use Rattle.feed_map.proofs.GainFacts.{gains-none, handed-on}
use Rattle.feed_map.proofs.FollowSteps.{cells-more, cells-stop}
use Rattle.feed_map.proofs.follow.follow_cells.Goals as goal

pub returns-then-not-has_feeders-clause-gains : goal.returns-then-not-has_feeders-clause-gains
returns-then-not-has_feeders-clause-gains c =
    let none : c.has_feeders.result ≡ false = search rules in
    gains-none (FeedsFrom c.args.model.now c.args.cells.now) (λ x feeds. c.has_feeders.ensures none feeds.0 x feeds.2) c.args.reached.now.growth

pub returns-in_err-follow-clause-stops : goal.returns-in_err-follow-clause-stops
returns-in_err-follow-clause-stops c =
    handed-on c.from_residual.result c.in_err-follow.field-0.0 (StopsBy (FeedsFrom c.args.model.now c.args.cells.now) c.args.reached.now.growth c.follow.new.reached.growth) c.from_residual.ensures.1
    (cells-stop c.args.model.now c.args.cells.now c.each.place (slice_index_or c.args.cells.now c.each.place 0) c.each-test.true refl c.args.reached.now.growth c.each.reached.growth c.follow.new.reached.growth c.in_err-follow.field-0.0 c.each.invariant.gains c.in_err-follow.ensures.stops)

pub each-preserved : goal.each-preserved
each-preserved c = record {
  gains = cells-more c.args.model.now c.args.cells.now c.each.place (slice_index_or c.args.cells.now c.each.place 0) c.each-test.true refl c.args.reached.now.growth c.each.reached.growth c.follow.new.reached.growth c.each.invariant.gains c.in_ok-follow.ensures.gains;
  totals = c.in_ok-follow.ensures.totals;
}
