use Rattle.std.proofs.Common.{rules, ◌≡◌, ◌∙◌, sym, ap, subst, ℕ, ◌<◌, ◌+◌, List, Option, true, false, take, get_or, length, inl, inr}
use Rattle.cube_space.specs.Layout.{axes}
use Rattle.cube_space.specs.Cells.{is_place, cube_of, elements_of}
use Rattle.cube_space.proofs.Places.{cell-place, is_place-from}
use Rattle.rule_model.specs.declared.rules.Feeder.{Feeder}
use Rattle.rule_model.specs.Areas.{in_source_sets}
use Rattle.feed_sources.specs.Feeders.{FeedsByOne, StandsFor}
use Rattle.feed_sources.proofs.FeederFacts.{by-source, by-target, more-from, more-parts, taken-one, target-by}
use Rattle.feed_sources.proofs.SpanFacts.{same-sets}
use Rattle.feed_map.specs.Inside.Gains.{Gains, StopsBy}
use Rattle.feed_map.proofs.GainFacts.{gains-none, gains-then, handed-on, stops-then}
use Rattle.feed_map.proofs.follow.follow_span.Goals.{After-is_source, After-index-feeders-n}
use Rattle.feed_map.proofs.follow.follow_span.Goals as goal

pub is_source-requires-clause-place : goal.is_source-requires-clause-place
is_source-requires-clause-place c =
    let own = is_place-from c.args.model.now.space (cube_of c.args.model.now.space c.args.cell) (elements_of c.args.model.now.space c.args.cell) (cell-place c.args.model.now.space c.args.cell c.requires.cell).place in
    subst (λ (es : List ℕ). is_place c.args.model.now.space c.args.cube es ≡ true) c.requires.elements
    (subst (λ (k : ℕ). is_place c.args.model.now.space k (elements_of c.args.model.now.space c.args.cell) ≡ true) c.requires.cube own)

-- what is found of the first feeder holds of each of them
on : (c : After-is_source) (k : ℕ) (f : Feeder) → k < length c.args.feeders.now → f ≡ get_or c.args.feeders.now k f
    → in_source_sets (axes c.args.model.now.space c.args.cube) f.area.sets (elements_of c.args.model.now.space c.args.cell) ≡ c.is_source.result
on c k f low is =
    let same = same-sets c.args.feeders.now k 0 f c.index-feeders-0.result c.requires.alike low c.requires.some is c.index-feeders-0.is in
    ap (λ (es : List ℕ). in_source_sets (axes c.args.model.now.space c.args.cube) f.area.sets es) c.requires.elements
    ∙ ap (λ (sets : List (Option (List ℕ))). in_source_sets (axes c.args.model.now.space c.args.cube) sets c.args.elements.now) same
    ∙ sym (subst (λ (g : Feeder). c.is_source.result ≡ in_source_sets (axes c.args.model.now.space c.args.cube) g.area.sets c.args.elements.now) (sym c.index-feeders-0.is) (rw c.get.ensures at c.is_source.ensures))

pub returns-then-not-is_source-clause-gains : goal.returns-then-not-is_source-clause-gains
returns-then-not-is_source-clause-gains c =
    let off : c.is_source.result ≡ false = search rules in
    let m = c.args.model.now in
    gains-none (FeedsByOne m c.args.cube c.args.feeders.now c.args.cell)
    (λ y (k, f, low, there, by). (let clash : true ≡ false =
    sym (by-source m c.args.cell y c.args.cube f c.requires.cell c.requires.leaf c.requires.cube by) ∙ on (goal.at.returns-then-not-is_source-clause-gains c).After-is_source k f low (sym there) ∙ off in cc))
    c.args.reached.now.growth

pub returns-in_err-add_target-clause-stops : goal.returns-in_err-add_target-clause-stops
returns-in_err-add_target-clause-stops c =
    let sure : c.is_source.result ≡ true = search rules in
    let m = c.args.model.now in
    let x = c.args.cell in
    let cube = c.args.cube in
    let fs = c.args.feeders.now in
    let f = c.index-feeders-n.result in
    let n = c.each.n in
    let stands = on (goal.at.returns-in_err-add_target-clause-stops c).After-is_source n f c.each-test.true c.index-feeders-n.is ∙ sure in
    handed-on c.from_residual.result c.in_err-add_target.field-0.0 (StopsBy (FeedsByOne m cube fs x) c.args.reached.now.growth c.add_target.new.reached.growth) c.from_residual.ensures.1
    (stops-then (FeedsByOne m cube (take n fs) x) (StandsFor m f.target x) (FeedsByOne m cube fs x)
    (λ y one. taken-one m cube fs n x y one)
    (λ y is. taken-one m cube fs (n + 1) x y (more-from m x y cube fs n f c.each-test.true c.index-feeders-n.is (inr (target-by m x y cube f c.requires.cell c.requires.leaf c.requires.cube stands is))))
    c.args.reached.now.growth c.each.reached.growth c.add_target.new.reached.growth c.in_err-add_target.field-0.0 c.each.invariant.gains.only
    (subst (λ (g : Feeder). StopsBy (StandsFor m g.target x) c.each.reached.growth c.add_target.new.reached.growth c.in_err-add_target.field-0.0) (sym c.index-feeders-n.is) (rw c.model.ensures at c.in_err-add_target.ensures.stops)))

pub each-preserved : goal.each-preserved
each-preserved c =
    let sure : c.is_source.result ≡ true = search rules in
    let m = c.args.model.now in
    let x = c.args.cell in
    let cube = c.args.cube in
    let fs = c.args.feeders.now in
    let f = c.index-feeders-n.result in
    let n = c.each.n in
    let stands = on (goal.at.each-preserved c).After-is_source n f c.each-test.true c.index-feeders-n.is ∙ sure in
    record {
      gains = gains-then (FeedsByOne m cube (take n fs) x) (StandsFor m f.target x) (FeedsByOne m cube (take (n + 1) fs) x)
          (λ y one. more-from m x y cube fs n f c.each-test.true c.index-feeders-n.is (inl one))
          (λ y is. more-from m x y cube fs n f c.each-test.true c.index-feeders-n.is (inr (target-by m x y cube f c.requires.cell c.requires.leaf c.requires.cube stands is)))
          (λ y more. elim (more-parts m x y cube fs n f c.each-test.true c.index-feeders-n.is more) [
            | inl one ↦ inl one
            | inr by ↦ inr (by-target m x y cube f c.requires.cell c.requires.leaf c.requires.cube by)
          ])
          c.args.reached.now.growth c.each.reached.growth c.add_target.new.reached.growth c.each.invariant.gains
          (subst (λ (g : Feeder). Gains (StandsFor m g.target x) c.each.reached.growth c.add_target.new.reached.growth) (sym c.index-feeders-n.is) (rw c.model.ensures at c.in_ok-add_target.ensures.gains));
      totals = rw c.model.ensures at c.in_ok-add_target.ensures.totals;
    }

pub add_target-requires-clause-cell : goal.add_target-requires-clause-cell
add_target-requires-clause-cell c = rw c.model.ensures c.requires.cell

pub add_target-requires-clause-totals : goal.add_target-requires-clause-totals
add_target-requires-clause-totals c = rw c.model.ensures c.each.invariant.totals
