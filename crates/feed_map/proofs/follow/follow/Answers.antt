use Rattle.std.proofs.Common.{rules, ◌≡◌, ◌∙◌, sym, ap, subst, ℕ, ◌-◌, ◌<◌, ◌≤◌, true, false, length, take, drop, List, arith, All}
use Rattle.std.specs.Prelude.{slice_range}
use Rattle.std.proofs.lemmas.List.{take_all}
use Rattle.std.proofs.lemmas.List.Elements.{All-drop, All-take}
use Rattle.cube_space.specs.Cells.{IsCell}
use Rattle.cube_space.proofs.Places.{cell-place}
use Rattle.rule_laws.specs.Feeding.{FeedsBy, Feeds}
use Rattle.rule_model.specs.declared.rules.CubeRules.{CubeRules}
use Rattle.rule_model.specs.declared.rules.Feeder.{Feeder}
use Rattle.rule_model.specs.BoundModel.{rules_of}
use Rattle.rule_model.specs.Conditions.{IsFeeder}
use Rattle.rule_model.specs.System.{system_of, feed_of}
use Rattle.feed_map.specs.Inside.Gains.{StopsBy}
use Rattle.feed_sources.specs.Feeders.{FeedsByOne}
use Rattle.feed_sources.specs.Spans.{IsSpan}
use Rattle.feed_map.proofs.GainFacts.{gains-none, gains-as, gains-then, stops-then, handed-on}
use Rattle.feed_sources.proofs.FeederFacts.{feeds-below, feeds-leaf-cell, taken-one, whole-feeds, feeds-whole}
use Rattle.feed_sources.proofs.SpanFacts.{span-alike, span-first, span-last, span-length, span-parts}
use Rattle.feed_map.proofs.follow.follow.Goals.{After-is_leaf_cell, After-as_slice-feeders, After-span_end-end}
use Rattle.feed_map.proofs.follow.follow.Goals as goal

-- it is a cell
cell-of : (c : After-is_leaf_cell) → c.is_leaf_cell.result ≡ true → IsCell c.args.model.now.space c.args.cell
cell-of c sure = let own = c.is_leaf_cell.ensures.cell sure in rw c.space.ensures.space at own

-- these are the feeders of its cube
are : (c : After-as_slice-feeders) → c.as_slice-feeders.result.now ≡ (rules_of c.args.model.now c.place_of-cube.result.0).feeders
are c = c.as_slice-feeders.ensures ∙ ap (λ (r : CubeRules). r.feeders) c.rules.ensures

pub returns-then-not-is_leaf_cell-clause-gains : goal.returns-then-not-is_leaf_cell-clause-gains
returns-then-not-is_leaf_cell-clause-gains c =
    let off : c.is_leaf_cell.result ≡ false = search rules in
    gains-none (Feeds (system_of c.args.model.now) c.args.cell)
    (λ x feeds. (let cell = feeds-below c.args.model.now c.args.cell x feeds in
    let leaf = feeds-leaf-cell c.args.model.now c.args.cell x feeds in
    let other = c.is_leaf_cell.ensures.other off (rw c.space.ensures.space cell) in
    let none = rw c.space.ensures.space at other in
    let clash : true ≡ false = sym leaf ∙ none in cc))
    c.args.reached.now.growth

pub rules-requires : goal.rules-requires
rules-requires c =
    let sure : c.is_leaf_cell.result ≡ true = search rules in
    let cell = cell-of (goal.at.rules-requires c).After-is_leaf_cell sure in
    subst (λ (k : ℕ). k < length c.args.model.now.space.cubes) (sym c.place_of-cube.ensures.cube) (cell-place c.args.model.now.space c.args.cell cell).place.there

-- the span of the feeder, among those of its cube
span-of : (c : After-span_end-end) → IsSpan c.as_slice-feeders.result.now c.each.n c.span_end-end.result
span-of c =
    let own = c.as_slice-feeders.ensures ∙ ap (λ (r : CubeRules). r.feeders) c.rules.ensures in
    subst (λ (fs : List Feeder). IsSpan fs c.each.n c.span_end-end.result) (sym own) c.span_end-end.ensures

pub span_end-end-requires-clause-place : goal.span_end-end-requires-clause-place
span_end-end-requires-clause-place c =
    let own = are (goal.at.span_end-end-requires-clause-place c).After-as_slice-feeders in
    omega (arith, c.each-test.true, ap (λ (fs : List Feeder). length fs) own)

pub follow_span-requires-clause-feeders : goal.follow_span-requires-clause-feeders
follow_span-requires-clause-feeders c =
    let sure : c.is_leaf_cell.result ≡ true = search rules in
    let m = c.args.model.now in
    let cube = c.place_of-cube.result.0 in
    let fs = c.as_slice-feeders.result.now in
    let cell = cell-of (goal.at.follow_span-requires-clause-feeders c).After-is_leaf_cell sure in
    let low = subst (λ (k : ℕ). k < length m.space.cubes) (sym c.place_of-cube.ensures.cube) (cell-place m.space c.args.cell cell).place.there in
    let own = are (goal.at.follow_span-requires-clause-feeders c).After-as_slice-feeders in
    let all : All (IsFeeder m.space cube) fs = subst (All (IsFeeder m.space cube)) (sym own) (c.space.ensures.rules.cube cube low).feeders in
    All-take (IsFeeder m.space cube) (c.span_end-end.result - c.each.n) (drop c.each.n fs) (All-drop (IsFeeder m.space cube) c.each.n fs all)

pub follow_span-requires-clause-some : goal.follow_span-requires-clause-some
follow_span-requires-clause-some c =
    let span = span-of (goal.at.follow_span-requires-clause-some c).After-span_end-end in
    omega (arith, span-length c.as_slice-feeders.result.now c.each.n c.span_end-end.result span, span.some)

pub follow_span-requires-clause-alike : goal.follow_span-requires-clause-alike
follow_span-requires-clause-alike c =
    span-alike c.as_slice-feeders.result.now c.each.n c.span_end-end.result (span-of (goal.at.follow_span-requires-clause-alike c).After-span_end-end)

pub returns-in_err-follow_span-clause-stops : goal.returns-in_err-follow_span-clause-stops
returns-in_err-follow_span-clause-stops c =
    let sure : c.is_leaf_cell.result ≡ true = search rules in
    let cell = cell-of (goal.at.returns-in_err-follow_span-clause-stops c).After-is_leaf_cell sure in
    let own = are (goal.at.returns-in_err-follow_span-clause-stops c).After-as_slice-feeders in
    let span = span-of (goal.at.returns-in_err-follow_span-clause-stops c).After-span_end-end in
    let m = c.args.model.now in
    let x = c.args.cell in
    let cube = c.place_of-cube.result.0 in
    let fs = c.as_slice-feeders.result.now in
    let n = c.each.n in
    let end = c.span_end-end.result in
    let low : n ≤ end = omega (arith, span.some) in
    handed-on c.from_residual.result c.in_err-follow_span.field-0.0 (StopsBy (Feeds (system_of m) x) c.args.reached.now.growth c.follow_span.new.reached.growth) c.from_residual.ensures.1
    (stops-then (FeedsByOne m cube (take n fs) x) (FeedsByOne m cube (slice_range fs n end) x) (Feeds (system_of m) x)
    (λ y one. whole-feeds m x y cube fs c.place_of-cube.ensures.cube own cell (taken-one m cube fs n x y one))
    (λ y one. whole-feeds m x y cube fs c.place_of-cube.ensures.cube own cell (taken-one m cube fs end x y (span-last fs n end low (λ f. FeedsBy (system_of m) (feed_of m.space cube f) x y) one)))
    c.args.reached.now.growth c.each.reached.growth c.follow_span.new.reached.growth c.in_err-follow_span.field-0.0 c.each.invariant.gains.only c.in_err-follow_span.ensures.stops)

pub each-preserved : goal.each-preserved
each-preserved c =
    let span = span-of (goal.at.each-preserved c).After-span_end-end in
    let m = c.args.model.now in
    let x = c.args.cell in
    let cube = c.place_of-cube.result.0 in
    let fs = c.as_slice-feeders.result.now in
    let n = c.each.n in
    let end = c.span_end-end.result in
    let low : n ≤ end = omega (arith, span.some) in
    record {
      gains = gains-then (FeedsByOne m cube (take n fs) x) (FeedsByOne m cube (slice_range fs n end) x) (FeedsByOne m cube (take end fs) x)
          (λ y one. span-first fs n end low (λ f. FeedsBy (system_of m) (feed_of m.space cube f) x y) one)
          (λ y one. span-last fs n end low (λ f. FeedsBy (system_of m) (feed_of m.space cube f) x y) one)
          (λ y more. span-parts fs n end low (λ f. FeedsBy (system_of m) (feed_of m.space cube f) x y) more)
          c.args.reached.now.growth c.each.reached.growth c.follow_span.new.reached.growth c.each.invariant.gains c.in_ok-follow_span.ensures.gains;
      totals = c.in_ok-follow_span.ensures.totals;
    }

pub each-smaller : goal.each-smaller
each-smaller c = let span = span-of (goal.at.each-smaller c).After-span_end-end in omega (arith, span.some, c.each-test.true)

pub returns-clause-gains : goal.returns-clause-gains
returns-clause-gains c =
    let sure : c.is_leaf_cell.result ≡ true = search rules in
    let cell = cell-of (goal.at.returns-clause-gains c).After-is_leaf_cell sure in
    let own = are (goal.at.returns-clause-gains c).After-as_slice-feeders in
    let m = c.args.model.now in
    let x = c.args.cell in
    let cube = c.place_of-cube.result.0 in
    let fs = c.as_slice-feeders.result.now in
    gains-as (FeedsByOne m cube (take c.each.n fs) x) (Feeds (system_of m) x)
    (λ y one. whole-feeds m x y cube fs c.place_of-cube.ensures.cube own cell (taken-one m cube fs c.each.n x y one))
    (λ y feeds. subst (λ (gs : List Feeder). FeedsByOne m cube gs x y) (sym (take_all c.each.n fs c.each-test.false)) (feeds-whole m x y cube fs c.place_of-cube.ensures.cube own feeds))
    c.args.reached.now.growth c.each.reached.growth c.each.invariant.gains
