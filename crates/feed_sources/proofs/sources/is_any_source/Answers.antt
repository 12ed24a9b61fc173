use Rattle.std.proofs.Common.{rules, ◌≡◌, ◌∙◌, refl, sym, ap, subst, ℕ, ◌<◌, true, false, length, List, arith}
use Rattle.std.proofs.lemmas.List.{take_all}
use Rattle.cube_space.specs.Cells.{IsCell, is_leaf_cell}
use Rattle.cube_space.proofs.Places.{cell-place}
use Rattle.rule_model.specs.declared.rules.CubeRules.{CubeRules}
use Rattle.rule_model.specs.declared.rules.Feeder.{Feeder}
use Rattle.rule_model.specs.BoundModel.{rules_of}
use Rattle.rule_model.specs.System.{system_of, feed_of}
use Rattle.feed_sources.specs.Sources.{IsSource}
use Rattle.feed_sources.specs.Spans.{IsSpan}
use Rattle.feed_sources.proofs.FeederFacts.{Has, HasOne, feeds-source, source-cell, source-leaf, source-whole, whole-source}
use Rattle.feed_sources.proofs.SpanFacts.{has-past}
use Rattle.feed_sources.proofs.Members.{some-of-none}
use Rattle.feed_sources.proofs.sources.is_any_source.Goals.{After-is_leaf_cell, After-as_slice-feeders, After-span_end-n}
use Rattle.feed_sources.proofs.sources.is_any_source.Goals as goal

-- it is a cell
cell-of : (c : After-is_leaf_cell) → c.is_leaf_cell.result ≡ true → IsCell c.args.model.now.space c.args.cell
cell-of c sure = let own = c.is_leaf_cell.ensures.cell sure in rw c.space.ensures.space at own

leaf-of : (c : After-is_leaf_cell) → c.is_leaf_cell.result ≡ true → is_leaf_cell c.args.model.now.space c.args.cell ≡ true
leaf-of c sure = let own = c.is_leaf_cell.ensures.leaf sure in rw c.space.ensures.space at own

-- no other is in an area
none : (c : After-is_leaf_cell) → c.is_leaf_cell.result ≡ false → IsSource (system_of c.args.model.now) c.args.cell → ⊥
none c off source =
    let other = c.is_leaf_cell.ensures.other off (rw c.space.ensures.space (source-cell c.args.model.now c.args.cell source)) in
    let total = rw c.space.ensures.space at other in
    let clash : true ≡ false = sym (source-leaf c.args.model.now c.args.cell source) ∙ total in cc

-- these are the feeders of its cube
are : (c : After-as_slice-feeders) → c.as_slice-feeders.result.now ≡ (rules_of c.args.model.now c.place_of-cube.result.0).feeders
are c = c.as_slice-feeders.ensures ∙ ap (λ (r : CubeRules). r.feeders) c.rules.ensures

pub returns-then-not-is_leaf_cell-clause-source : goal.returns-then-not-is_leaf_cell-clause-source
returns-then-not-is_leaf_cell-clause-source c =
    let off : c.is_leaf_cell.result ≡ false = search rules in
    (λ is. absurd (let clash : false ≡ true = is in cc), λ source. absurd (none (goal.at.returns-then-not-is_leaf_cell-clause-source c).After-is_leaf_cell off source))

pub returns-then-not-is_leaf_cell-clause-other : goal.returns-then-not-is_leaf_cell-clause-other
returns-then-not-is_leaf_cell-clause-other c = λ _ fed feeds.
    let off : c.is_leaf_cell.result ≡ false = search rules in
    none (goal.at.returns-then-not-is_leaf_cell-clause-other c).After-is_leaf_cell off (feeds-source c.args.model.now c.args.cell fed feeds)

pub rules-requires : goal.rules-requires
rules-requires c =
    let sure : c.is_leaf_cell.result ≡ true = search rules in
    let cell = cell-of (goal.at.rules-requires c).After-is_leaf_cell sure in
    subst (λ (k : ℕ). k < length c.args.model.now.space.cubes) (sym c.place_of-cube.ensures.cube) (cell-place c.args.model.now.space c.args.cell cell).place.there

pub each-init : goal.each-init
each-init c = λ one. some-of-none (λ (f : Feeder). Has c.args.model.now c.args.cell (feed_of c.args.model.now.space c.place_of-cube.result.0 f)) one

-- the feeder's span, among those of its cube
span-of : (c : After-span_end-n) → IsSpan c.as_slice-feeders.result.now c.each.n c.span_end-n.result
span-of c =
    let own = c.as_slice-feeders.ensures ∙ ap (λ (r : CubeRules). r.feeders) c.rules.ensures in
    subst (λ (fs : List Feeder). IsSpan fs c.each.n c.span_end-n.result) (sym own) c.span_end-n.ensures

pub span_end-n-requires-clause-place : goal.span_end-n-requires-clause-place
span_end-n-requires-clause-place c =
    let own = are (goal.at.span_end-n-requires-clause-place c).After-as_slice-feeders in
    omega (arith, c.each-test.true, ap (λ (fs : List Feeder). length fs) own)

pub each-preserved : goal.each-preserved
each-preserved c =
    has-past c.args.model.now c.args.cell c.place_of-cube.result.0 c.as_slice-feeders.result.now c.each.n c.span_end-n.result c.index-feeders-n.result (span-of c) c.index-feeders-n.is
    c.each.invariant
    (λ has. (let sure = c.is_source_of.ensures.1 has in let clash : true ≡ false = sym sure ∙ c.if-is_source_of.false in cc))

pub each-smaller : goal.each-smaller
each-smaller c = let span = span-of c in omega (arith, span.some, c.each-test.true)

pub returns-then-is_source_of-clause-source : goal.returns-then-is_source_of-clause-source
returns-then-is_source_of-clause-source c =
    let sure : c.is_leaf_cell.result ≡ true = search rules in
    let at = goal.at.returns-then-is_source_of-clause-source c in (
      λ _. whole-source c.args.model.now c.args.cell c.place_of-cube.result.0 c.as_slice-feeders.result.now c.place_of-cube.ensures.cube (are at.After-as_slice-feeders)
          (cell-of at.After-is_leaf_cell sure) (leaf-of at.After-is_leaf_cell sure)
          (c.each.n, c.index-feeders-n.result, c.each-test.true, sym c.index-feeders-n.is, c.is_source_of.ensures.0 c.if-is_source_of.true),
      λ _. refl,
    )

pub returns-clause-source : goal.returns-clause-source
returns-clause-source c =
    let fs = c.as_slice-feeders.result.now in (
      λ is. absurd (let clash : false ≡ true = is in cc),
      λ source. absurd (c.each.invariant (subst (λ (gs : List Feeder). HasOne c.args.model.now c.args.cell c.place_of-cube.result.0 gs) (sym (take_all c.each.n fs c.each-test.false))
          (source-whole c.args.model.now c.args.cell c.place_of-cube.result.0 fs c.place_of-cube.ensures.cube (are (goal.at.returns-clause-source c).After-as_slice-feeders) source))),
    )

pub returns-clause-other : goal.returns-clause-other
returns-clause-other c = λ _ fed feeds.
    let fs = c.as_slice-feeders.result.now in
    c.each.invariant (subst (λ (gs : List Feeder). HasOne c.args.model.now c.args.cell c.place_of-cube.result.0 gs) (sym (take_all c.each.n fs c.each-test.false))
    (source-whole c.args.model.now c.args.cell c.place_of-cube.result.0 fs c.place_of-cube.ensures.cube (are (goal.at.returns-clause-other c).After-as_slice-feeders)
    (feeds-source c.args.model.now c.args.cell fed feeds)))
