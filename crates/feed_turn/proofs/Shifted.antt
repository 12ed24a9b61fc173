-- Maps that move all elements as far.
use Rattle.std.proofs.Common.{◌≡◌, ap, ◌∙◌, sym, refl, ℕ, ◌+◌, ◌<◌, ◌≤◌, ◌==◌, true, false, eq-eqb, Option, Some, None, List, ◌∷◌, length, get_or, drop}
use Rattle.std.proofs.lemmas.List.{drop_more, drop_all}
use Rattle.std.specs.Option.{option_map_or}
use Rattle.std.proofs.lemmas.Option.{unwrap_or-slice_get}
use Rattle.rule_laws.specs.Maps.{identity}
use Rattle.rule_laws.proofs.MapFacts.{inside}
use Rattle.cover_laws.specs.Looking.{sent}
use Rattle.feed_turn.specs.Shift.{shift, shift_from, goes}
use Rattle.feed_turn.specs.Turning.{keeps_each}
use Rattle.feed_turn.proofs.Ranges.{all-passes}

pub sent-at : (back : List (Option ℕ)) (element : ℕ) (d : Option ℕ) → element < length back → sent back element ≡ get_or back element d
sent-at back element d low = unwrap_or-slice_get back element None ∙ Rattle.std.proofs.lemmas.List.get_or_default back element None d low

-- an element that is sent nowhere is passed over
pub shift-next : (size place : ℕ) (back : List (Option ℕ)) (d : Option ℕ) → place < length back → get_or back place d ≡ None → shift_from size place (drop place back) ≡ shift_from size (place + 1) (drop (place + 1) back)
shift-next size place back d low none =
    ap (shift_from size place) (drop_more back place d low) ∙ ap (λ (o : Option ℕ). shift_from size place (o ∷ drop (place + 1) back)) none

pub shift-here : (size place element : ℕ) (back : List (Option ℕ)) (d : Option ℕ) → place < length back → get_or back place d ≡ Some element → shift_from size place (drop place back) ≡ Some (shift size place element)
shift-here size place element back d low some =
    ap (shift_from size place) (drop_more back place d low) ∙ ap (λ (o : Option ℕ). shift_from size place (o ∷ drop (place + 1) back)) some

pub shift-none : (size place : ℕ) (back : List (Option ℕ)) → length back ≤ place → shift_from size place (drop place back) ≡ None
shift-none size place back past = ap (shift_from size place) (drop_all place back past)

-- an identity keeps each element
pub keeps-identity : (to : List (Option ℕ)) → to ≡ identity (length to) → keeps_each to ≡ true
keeps-identity to is = all-passes (λ e. goes to e (Some e)) (length to) (λ k low.
    ap (λ (o : Option ℕ). option_map_or (λ other. other == k) o false) (ap (λ (t : List (Option ℕ)). sent t k) is ∙ sym (inside (length to) k low)) ∙ eq-eqb k k refl)
