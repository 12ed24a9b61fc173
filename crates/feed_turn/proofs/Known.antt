-- What comes of a map that moves elements alike, whatever is turned round.
use Rattle.std.proofs.Common.{◌≡◌, ap, ◌∙◌, sym, refl, subst, inl, inr, ◌⊎◌, ◌<◌, ◌∷◌, ◌++◌, length, get_or, All, Bool, ℕ, Option, Some, None, option_map, List, [], ◌&&◌, if◌then◌else◌, ◌==◌}
use Rattle.std.specs.Prelude.{slice_get, slice_index_or, option_and_then}
use Rattle.std.specs.Option.{option_map_or}
use Rattle.std.proofs.lemmas.List.Elements.{All-get_or, All-push}
use Rattle.cube_space.specs.Layout.{Layout, axes, dims_of}
use Rattle.rule_laws.specs.declared.reference.Arg.TheVariants.{Moved}
use Rattle.rule_model.specs.BoundModel.{BoundModel}
use Rattle.feed_turn.specs.Leaves.{set_leaves}
use Rattle.feed_turn.specs.Named.{named_set}
use Rattle.feed_turn.specs.Inverse.{inverse}
use Rattle.feed_turn.specs.Shift.{short_form}
use Rattle.feed_turn.specs.Turning.{Turn, keeps_each, map_back, source_set}
use Rattle.feed_turn.specs.declared.turns.Known.{Known}
use Rattle.feed_turn.specs.Known.{Move, move_of, IsTurnOf, IsBack, IsSource, AreBacks, AreSources}

-- it depends on the cubes, and on the set that the area has in the dimension
abbrev shared-in : Layout → ℕ → ℕ → ℕ → ℕ → Bool
shared-in space own its i j = slice_index_or (dims_of space own) i 0 == slice_index_or (dims_of space its) j 0

abbrev leaves-in : Layout → ℕ → Option (List ℕ) → ℕ → List ℕ
leaves-in space own set i = option_map_or (λ d. set_leaves d set) (slice_get (axes space own) i) []

abbrev back-in : Layout → ℕ → ℕ → Option (List ℕ) → ℕ → ℕ → List (Option ℕ) → Option (List (Option ℕ))
back-in space own its set i j to = if shared-in space own its i j && keeps_each to then Some to
    else option_map (short_form (shared-in space own its i j)) (option_and_then (λ d. inverse d to (leaves-in space own set i)) (slice_get (axes space its) j))

abbrev source-in : Layout → ℕ → ℕ → Option (List ℕ) → ℕ → ℕ → List (Option ℕ) → Option (List ℕ)
source-in space own its set i j to = option_and_then (λ d. named_set d to (leaves-in space own set i)) (slice_get (axes space its) j)

back-is : (turn : Turn) (i j : ℕ) (to : List (Option ℕ)) → map_back turn i j to ≡ back-in turn.space turn.cube turn.reference.cube (slice_index_or turn.area.sets i None) i j to
unfolding map_back
back-is turn i j to = refl

pub is-back : (m : BoundModel) (cube : ℕ) (move : Move) (turn : Turn) (found : Option (List (Option ℕ))) → IsTurnOf m cube move turn → found ≡ map_back turn move.dim move.place move.to → IsBack m cube move found
is-back m cube move turn found of is = λ other so.
    is ∙ back-is turn move.dim move.place move.to
    ∙ ap (λ (l : Layout). back-in l turn.cube turn.reference.cube (slice_index_or turn.area.sets move.dim None) move.dim move.place move.to) (of.space ∙ sym so.space)
    ∙ ap (λ n. back-in other.space n turn.reference.cube (slice_index_or turn.area.sets move.dim None) move.dim move.place move.to) (of.own ∙ sym so.own)
    ∙ ap (λ n. back-in other.space other.cube n (slice_index_or turn.area.sets move.dim None) move.dim move.place move.to) (of.its ∙ sym so.its)
    ∙ ap (λ (set : Option (List ℕ)). back-in other.space other.cube other.reference.cube set move.dim move.place move.to) (of.all ∙ sym so.all)
    ∙ sym (back-is other move.dim move.place move.to)

pub is-source : (m : BoundModel) (cube : ℕ) (move : Move) (turn : Turn) (found : Option (List ℕ)) → IsTurnOf m cube move turn → found ≡ source_set turn move.place (Moved move.dim move.to) → IsSource m cube move found
is-source m cube move turn found of is = λ other so.
    is
    ∙ ap (λ (l : Layout). source-in l turn.cube turn.reference.cube (slice_index_or turn.area.sets move.dim None) move.dim move.place move.to) (of.space ∙ sym so.space)
    ∙ ap (λ n. source-in other.space n turn.reference.cube (slice_index_or turn.area.sets move.dim None) move.dim move.place move.to) (of.own ∙ sym so.own)
    ∙ ap (λ n. source-in other.space other.cube n (slice_index_or turn.area.sets move.dim None) move.dim move.place move.to) (of.its ∙ sym so.its)
    ∙ ap (λ (set : Option (List ℕ)). source-in other.space other.cube other.reference.cube set move.dim move.place move.to) (of.all ∙ sym so.all)

-- what is found again
pub recalled-back : (m : BoundModel) (cube : ℕ) (backs : List (Known (Option (List (Option ℕ))))) (place : ℕ) (one : Known (Option (List (Option ℕ)))) (move : Move) (turn : Turn) → AreBacks m cube backs → place < length backs → one ≡ get_or backs place one
    → move_of one.moving ≡ move → IsTurnOf m cube move turn → one.found ≡ map_back turn move.dim move.place move.to
recalled-back m cube backs place one move turn are low is alike of =
    let P = λ (one : Known (Option (List (Option ℕ)))). IsBack m cube (move_of one.moving) one.found in
    let own : IsBack m cube (move_of one.moving) one.found = subst P (sym is) (All-get_or P backs place one low are) in
    let same : IsBack m cube move one.found = subst (λ (move : Move). IsBack m cube move one.found) alike own in
    same turn of

pub recalled-source : (m : BoundModel) (cube : ℕ) (sets : List (Known (Option (List ℕ)))) (place : ℕ) (one : Known (Option (List ℕ))) (move : Move) (turn : Turn) → AreSources m cube sets → place < length sets → one ≡ get_or sets place one
    → move_of one.moving ≡ move → IsTurnOf m cube move turn → one.found ≡ source_set turn move.place (Moved move.dim move.to)
recalled-source m cube sets place one move turn are low is alike of =
    let P = λ (one : Known (Option (List ℕ))). IsSource m cube (move_of one.moving) one.found in
    let own : IsSource m cube (move_of one.moving) one.found = subst P (sym is) (All-get_or P sets place one low are) in
    let same : IsSource m cube move one.found = subst (λ (move : Move). IsSource m cube move one.found) alike own in
    same turn of

-- what is remembered with it
pub kept-all : {X : Type 0} (P : X → Type 0) → (old new : List X) (one : X) → All P old → (new ≡ old) ⊎ (new ≡ old ++ one ∷ []) → P one → All P new
kept-all P old new one are (inl same) is = subst (All P) (sym same) are
kept-all P old new one are (inr more) is = subst (All P) (sym more) (All-push P old one are is)
