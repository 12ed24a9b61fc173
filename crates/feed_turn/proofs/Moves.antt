-- An argument of the reference that is turned round.
use Rattle.std.proofs.Common.{◌≡◌, ◌<◌, ap, ◌∙◌, sym, arith, ℕ, Option, Some, List, length}
use Rattle.std.specs.Prelude.{slice_get, option_and_then}
use Rattle.cube_space.specs.Layout.{axes}
use Rattle.rule_laws.specs.declared.reference.Arg.{Arg}
use Rattle.rule_laws.specs.declared.reference.Arg.TheVariants.{Moved}
use Rattle.feed_turn.specs.declared.turn_view.TurnView.{TurnView}
use Rattle.feed_turn.specs.Inverse.{inverse}
use Rattle.feed_turn.specs.Turning.{area_leaves, inverse_at}
use Rattle.feed_turn.specs.Views.{turn_of, IsTurn, IsMoved}
use Rattle.feed_turn.proofs.BackFacts.{back-long}
use Rattle.feed_turn.proofs.Places.{move-at, axis-there, few-elements}

-- one that follows a dimension moves its elements
pub is-moved : (view : TurnView) (dim place from : ℕ) (to : List (Option ℕ)) (arg : Arg) → IsTurn view → slice_get view.reference.now.args place ≡ Some arg → arg ≡ Moved from to → from ≡ dim → IsMoved view dim place to
is-moved view dim place from to arg turn at is same =
    let there : slice_get view.reference.now.args place ≡ Some (Moved dim to) = at ∙ ap Some (is ∙ ap (λ n. Moved n to) same) in
    let move = move-at view.model.now.space view.cube view.reference.now place dim to turn.reference there in
    record { own = move.followed; its = move.target; whole = move.whole; sends = move.below }

-- a map back lists no more elements than a dimension has
pub inverse-few : (view : TurnView) (dim place : ℕ) (to back : List (Option ℕ)) → IsTurn view → place < length (axes view.model.now.space view.reference.now.cube) → inverse_at (turn_of view) dim place to ≡ Some back → length back < 4294967296
inverse-few view dim place to back turn low is =
    let space = view.model.now.space in
    let leaves = area_leaves space view.cube view.area.now dim in
    let (d, at) = axis-there (axes space view.reference.now.cube) place low in
    let found = ap (λ o. option_and_then (λ d. inverse d to leaves) o) (sym at) ∙ is in
    omega (arith, back-long d to leaves back found, few-elements space view.reference.now.cube place d turn.valid at)
