use Rattle.std.proofs.Common.{rules, ◌≡◌, ◌∙◌, refl, sym, ap, subst, ℕ, Bool, true, false, List, None, Some}
use Rattle.cube_space.specs.Layout.{axes}
use Rattle.cube_space.specs.Cells.{cube_of, elements_of, is_leaf_cell, is_place}
use Rattle.cube_space.proofs.Places.{cell-place, is_place-from}
use Rattle.rule_model.specs.Areas.{in_source_sets}
use Rattle.rule_laws.specs.Feeding.{FeedsBy, leaves_of}
use Rattle.rule_model.specs.System.{system_of, feed_of}
use Rattle.rule_model.specs.Targets.{target}
use Rattle.feed_chains.specs.Inside.LedCells.{Adds}
use Rattle.feed_sources.specs.Feeders.{StandsFor}
use Rattle.std.specs.List.{Contains}
use Rattle.feed_sources.proofs.BelowFacts.{stands-leaf}
use Rattle.feed_sources.proofs.FeederFacts.{by-source, by-target}
use Rattle.feed_chains.proofs.LedFacts.{adds-as, adds-none, on-some}
use Rattle.feed_chains.proofs.led.follow_by.Goals.{After-target}
use Rattle.feed_chains.proofs.led.follow_by.Goals as goal

pub is_source-requires-clause-place : goal.is_source-requires-clause-place
is_source-requires-clause-place c =
    let own = is_place-from c.args.model.now.space (cube_of c.args.model.now.space c.args.cell) (elements_of c.args.model.now.space c.args.cell) (cell-place c.args.model.now.space c.args.cell c.requires.cell).place in
    subst (λ (es : List ℕ). is_place c.args.model.now.space c.args.cube es ≡ true) c.requires.elements
    (subst (λ (k : ℕ). is_place c.args.model.now.space k (elements_of c.args.model.now.space c.args.cell) ≡ true) c.requires.cube own)

-- where the area doesn't have it, it feeds none
pub returns-then-not-is_source : goal.returns-then-not-is_source
returns-then-not-is_source c =
    let off : c.is_source.result ≡ false = search rules in
    let m = c.args.model.now in
    let is_in : List ℕ → Bool = in_source_sets (axes m.space c.args.cube) c.args.feeder.now.area.sets in
    adds-none (FeedsBy (system_of m) (feed_of m.space c.args.cube c.args.feeder.now) c.args.cell) c.args.led.now c.args.led.now refl
    (λ x by. let on = by-source m c.args.cell x c.args.cube c.args.feeder.now c.requires.cell c.requires.leaf c.requires.cube by in
    let clash : true ≡ false = sym on ∙ ap is_in c.requires.elements ∙ sym (rw c.get.ensures at c.is_source.ensures) ∙ off in cc)

-- what it feeds is named
stands : (c : After-target) (x : ℕ) → FeedsBy (system_of c.args.model.now) (feed_of c.args.model.now.space c.args.cube c.args.feeder.now) c.args.cell x → StandsFor c.args.model.now c.args.feeder.now.target c.args.cell x
stands c x by = by-target c.args.model.now c.args.cell x c.args.cube c.args.feeder.now c.requires.cell c.requires.leaf c.requires.cube by

-- the cell that is named, if there is one
named-is : (c : After-target) → target c.args.model.now.space c.args.feeder.now.target c.args.cell ≡ c.target.result
named-is c = sym (rw c.model.ensures at c.target.ensures.value)

pub returns-in_default : goal.returns-in_default
returns-in_default c =
    let at = (goal.at.returns-in_default c).After-target in
    adds-none (FeedsBy (system_of c.args.model.now) (feed_of c.args.model.now.space c.args.cube c.args.feeder.now) c.args.cell) c.args.led.now c.args.led.now refl
    (λ x by. let named = stands at x by in
    let clash : None ≡ Some named.0 = sym c.in_default.is ∙ sym (named-is at) ∙ named.1 in cc)

pub returns : goal.returns
returns c =
    let at = (goal.at.returns c).After-target in
    let m = c.args.model.now in
    let named = c.in-Some.named in
    let Fed : ℕ → Type 0 = FeedsBy (system_of m) (feed_of m.space c.args.cube c.args.feeder.now) c.args.cell in
    let leaf : is_leaf_cell m.space named ≡ true = (let here = sym c.is_leaf.ensures ∙ c.if-not-is_leaf.false in rw c.space.ensures.space at here) in
    on-some c.add.result (Adds (λ other. named ≡ other) c.args.led.now c.add.new.self) (Adds Fed c.args.led.now c.add.new.self)
    (adds-as (λ other. named ≡ other) Fed c.args.led.now c.add.new.self
    (λ x by. let own = stands at x by in
    let same : Some own.0 ≡ Some named = sym own.1 ∙ named-is at ∙ c.in-Some.is in
    let is : own.0 ≡ named = cc in
    stands-leaf m named leaf x (subst (λ (t : ℕ). Contains (leaves_of (system_of m) t) x) is own.2)))
    c.add.ensures
