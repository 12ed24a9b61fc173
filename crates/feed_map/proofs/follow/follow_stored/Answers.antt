use Rattle.std.proofs.Common.{rules, ◌≡◌, ◌≤◌, ◌^◌, false, arith, ap, sym, ◌∙◌}
use Rattle.cell_store.specs.Entries.{cells_of}
use Rattle.cube_space.specs.Cells.{size_of}
use Rattle.feed_map.specs.Inside.Gains.{StopsBy}
use Rattle.feed_map.specs.Inside.Follows.{FeedsFrom}
use Rattle.feed_map.proofs.GainFacts.{gains-none, handed-on}
use Rattle.feed_sources.proofs.FeederFacts.{feeds-below}
use Rattle.feed_map.proofs.FollowSteps.{stored-more, stored-stops, stored-past, stored-done, from-first}
use Rattle.feed_map.proofs.follow.follow_stored.Goals as goal

pub returns-then-not-has_feeders-clause-gains : goal.returns-then-not-has_feeders-clause-gains
returns-then-not-has_feeders-clause-gains c =
    let none : c.has_feeders.result ≡ false = search rules in
    gains-none (FeedsFrom c.args.model.now (cells_of c.args.store.now)) (λ x feeds. c.has_feeders.ensures none feeds.0 x feeds.2) c.args.reached.now.growth

pub returns-then-entry-size-clause-gains : goal.returns-then-entry-size-clause-gains
returns-then-entry-size-clause-gains c =
    let found = sym c.entry_from.ensures.next ∙ c.in-Some.is in
    let size : c.size-size.result ≡ size_of c.args.model.now.space = c.size-size.ensures.size ∙ ap size_of c.space.ensures.space in
    stored-past c.args.model.now c.args.store.now c.entry_from.ensures.valid.rising c.each.from c.in-Some.entry found
    (λ x y high feeds. (let low = feeds-below c.args.model.now x y feeds in omega (arith, low, high, size, c.if-entry-size.true)))
    c.args.reached.now.growth c.each.reached.growth c.each.invariant.gains

pub returns-in_err-follow-clause-stops : goal.returns-in_err-follow-clause-stops
returns-in_err-follow-clause-stops c =
    let found = sym c.entry_from.ensures.next ∙ c.in-Some.is in
    handed-on c.from_residual.result c.in_err-follow.field-0.0 (StopsBy (FeedsFrom c.args.model.now (cells_of c.args.store.now)) c.args.reached.now.growth c.follow.new.reached.growth) c.from_residual.ensures.1
    (stored-stops c.args.model.now c.args.store.now c.entry_from.ensures.valid.rising c.each.from c.in-Some.entry found c.args.reached.now.growth c.each.reached.growth c.follow.new.reached.growth c.in_err-follow.field-0.0 c.each.invariant.gains c.in_err-follow.ensures.stops)

pub each-smaller : goal.each-smaller
each-smaller c =
    let found = sym c.entry_from.ensures.next ∙ c.in-Some.is in
    let high = from-first c.args.model.now c.args.store.now c.entry_from.ensures.valid.rising c.each.from c.in-Some.entry found in
    let size : c.size-size.result ≡ size_of c.args.model.now.space = c.size-size.ensures.size ∙ ap size_of c.space.ensures.space in
    let least : size_of c.space.result.now ≤ 2 ^ 62 = c.size-size.ensures.valid.size in
    omega (arith, high, c.if-entry-size.false, c.size-size.ensures.size, least)

pub each-preserved : goal.each-preserved
each-preserved c =
    let found = sym c.entry_from.ensures.next ∙ c.in-Some.is in
    let least : size_of c.space.result.now ≤ 2 ^ 62 = c.size-size.ensures.valid.size in
    record {
      gains = stored-more c.args.model.now c.args.store.now c.entry_from.ensures.valid.rising c.each.from c.in-Some.entry found c.args.reached.now.growth c.each.reached.growth c.follow.new.reached.growth c.each.invariant.gains c.in_ok-follow.ensures.gains;
      totals = c.in_ok-follow.ensures.totals;
      place = omega (arith, c.if-entry-size.false, c.size-size.ensures.size, least);
    }

pub returns-clause-gains : goal.returns-clause-gains
returns-clause-gains c =
    let none = sym c.entry_from.ensures.next ∙ c.in_default.is in
    stored-done c.args.model.now c.args.store.now c.entry_from.ensures.valid.rising c.each.from none c.args.reached.now.growth c.each.reached.growth c.each.invariant.gains
