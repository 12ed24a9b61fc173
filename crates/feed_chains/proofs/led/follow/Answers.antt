use Rattle.std.proofs.Common.{rules, ◌≡◌, ◌∙◌, refl, sym, ap, subst, ℕ, ◌+◌, ◌<◌, true, false, length, take, List, []}
use Rattle.std.proofs.lemmas.List.{take_all}
use Rattle.cube_space.specs.Cells.{IsCell}
use Rattle.cube_space.proofs.Places.{cell-place}
use Rattle.rule_laws.specs.Feeding.{Feeds, FeedsBy}
use Rattle.rule_model.specs.declared.rules.CubeRules.{CubeRules}
use Rattle.rule_model.specs.declared.rules.Feeder.{Feeder}
use Rattle.rule_model.specs.BoundModel.{rules_of}
use Rattle.rule_model.specs.System.{system_of, feed_of}
use Rattle.feed_sources.specs.Feeders.{FeedsByOne}
use Rattle.feed_sources.proofs.FeederFacts.{feeds-below, feeds-leaf-cell, feeds-whole, more-parts}
use Rattle.feed_chains.proofs.LedFacts.{adds-as, adds-none, adds-then}
use Rattle.feed_sources.proofs.Members.{some-of-none}
use Rattle.feed_chains.proofs.led.follow.Goals.{After-is_leaf_cell, After-as_slice-feeders}
use Rattle.feed_chains.proofs.led.follow.Goals as goal

-- it is a cell
cell-of : (c : After-is_leaf_cell) → c.is_leaf_cell.result ≡ true → IsCell c.args.model.now.space c.args.cell
cell-of c sure = let own = c.is_leaf_cell.ensures.cell sure in rw c.space.ensures.space at own

-- these are the feeders of its cube
are : (c : After-as_slice-feeders) → c.as_slice-feeders.result.now ≡ (rules_of c.args.model.now c.place_of-cube.result.0).feeders
are c = c.as_slice-feeders.ensures ∙ ap (λ (r : CubeRules). r.feeders) c.rules.ensures

pub returns-then-not-is_leaf_cell : goal.returns-then-not-is_leaf_cell
returns-then-not-is_leaf_cell c =
    let off : c.is_leaf_cell.result ≡ false = search rules in
    let m = c.args.model.now in
    adds-none (Feeds (system_of m) c.args.cell) c.args.led.now c.args.led.now refl
    (λ x feeds. let other = c.is_leaf_cell.ensures.other off (rw c.space.ensures.space (feeds-below m c.args.cell x feeds)) in
    let none = rw c.space.ensures.space at other in
    let clash : true ≡ false = sym (feeds-leaf-cell m c.args.cell x feeds) ∙ none in cc)

pub rules-requires : goal.rules-requires
rules-requires c =
    let sure : c.is_leaf_cell.result ≡ true = search rules in
    let cell = cell-of (goal.at.rules-requires c).After-is_leaf_cell sure in
    subst (λ (k : ℕ). k < length c.args.model.now.space.cubes) (sym c.place_of-cube.ensures.cube) (cell-place c.args.model.now.space c.args.cell cell).place.there

pub each-init : goal.each-init
each-init c =
    let m = c.args.model.now in
    adds-none (FeedsByOne m c.place_of-cube.result.0 [] c.args.cell) c.args.led.now c.look.new.self c.look.ensures
    (λ y one. some-of-none (λ (f : Feeder). FeedsBy (system_of m) (feed_of m.space c.place_of-cube.result.0 f) c.args.cell y) one)

pub each-preserved : goal.each-preserved
each-preserved c =
    let m = c.args.model.now in
    let x = c.args.cell in
    let cube = c.place_of-cube.result.0 in
    let fs = c.as_slice-feeders.result.now in
    let f = c.index-feeders-n.result in
    adds-then (FeedsByOne m cube (take c.each.n fs) x) (FeedsBy (system_of m) (feed_of m.space cube f) x) (FeedsByOne m cube (take (c.each.n + 1) fs) x)
    c.args.led.now c.each.led c.follow_by.new.led
    (λ y more. more-parts m x y cube fs c.each.n f c.each-test.true c.index-feeders-n.is more)
    c.each.invariant c.in_ok-follow_by.ensures

pub returns : goal.returns
returns c =
    let m = c.args.model.now in
    let x = c.args.cell in
    let cube = c.place_of-cube.result.0 in
    let fs = c.as_slice-feeders.result.now in
    let own = are (goal.at.returns c).After-as_slice-feeders in
    adds-as (FeedsByOne m cube (take c.each.n fs) x) (Feeds (system_of m) x) c.args.led.now c.each.led
    (λ y feeds. subst (λ (gs : List Feeder). FeedsByOne m cube gs x y) (sym (take_all c.each.n fs c.each-test.false)) (feeds-whole m x y cube fs c.place_of-cube.ensures.cube own feeds))
    c.each.invariant
