-- What is remembered of the elements over an area's leaves.
use Rattle.std.proofs.Common.{◌≡◌, ap, ◌∙◌, sym, arith, refl, subst, [], ℕ, ◌<◌, Option, Some, None, inl, inr, List, length, get_or, set, replicate, ◌==◌, Bool, true, false, All}
use Rattle.std.specs.Prelude.{slice_get, slice_index_or, option_and_then}
use Rattle.std.specs.Option.{option_map_or}
use Rattle.std.proofs.Math.ListN.{length-set}
use Rattle.std.proofs.lemmas.Bool.Decides.{Decides-eqb}
use Rattle.std.proofs.lemmas.List.{get_or-set_same, get_or-set_other, length-replicate, get_or-replicate}
use Rattle.std.proofs.lemmas.Option.{slice_get-get_or, slice_get_within, get_or_from_slice_get}
use Rattle.cube_space.specs.Layout.{Layout, axes, sizes}
use Rattle.rule_model.specs.declared.area.Area.{Area}
use Rattle.rule_model.specs.BoundModel.{BoundModel}
use Rattle.rule_model.specs.Conditions.{IsArea}
use Rattle.feed_turn.specs.Leaves.{set_leaves, over}
use Rattle.feed_turn.specs.Turning.{area_leaves, area_over}
use Rattle.feed_turn.specs.Known.{AreOvers, whole_area}
use Rattle.feed_turn.proofs.Places.{axis-there, size-at, set-inside}
use Rattle.feed_turn.proofs.Valid.{leaves-below}

pub overs-none : (m : BoundModel) (cube n : ℕ) → n ≡ length (axes m.space cube) → AreOvers m cube (replicate n None)
overs-none m cube n is = record {
  whole = length-replicate n None ∙ is;
  known = λ i over at.
      let low : i < n = omega (arith, slice_get_within (replicate n None) i (Some over) at, length-replicate {A = Option (Option ℕ)} n None) in
      let clash : None ≡ Some over = sym (get_or-replicate n i None None low) ∙ get_or_from_slice_get (replicate n None) i (Some over) None at in
      absurd (cc);
}

-- an area that has all elements of a dimension has the leaves there that all cells have
over-whole : (space : Layout) (cube : ℕ) (area : Area) (i : ℕ) → slice_index_or area.sets i None ≡ None → area_over space cube area i ≡ area_over space cube whole_area i
over-whole space cube area i all = ap (λ (set : Option (List ℕ)). option_and_then (λ d. over d (option_map_or (λ d. set_leaves d set) (slice_get (axes space cube) i) [])) (slice_get (axes space cube) i)) all

pub overs-known : (m : BoundModel) (cube : ℕ) (area : Area) (overs : List (Option (Option ℕ))) (i : ℕ) (slot : Option (Option ℕ)) (over : Option ℕ) → AreOvers m cube overs → slice_index_or area.sets i None ≡ None → i < length overs → slot ≡ slice_index_or overs i slot
    → slot ≡ Some over → over ≡ area_over m.space cube area i
overs-known m cube area overs i slot over are all low is at = are.known i over (slice_get-get_or overs i slot low ∙ ap Some (sym is ∙ at)) ∙ sym (over-whole m.space cube area i all)

pub overs-set : (m : BoundModel) (cube : ℕ) (area : Area) (overs : List (Option (Option ℕ))) (i : ℕ) (over : Option ℕ) → AreOvers m cube overs → slice_index_or area.sets i None ≡ None → i < length overs → over ≡ area_over m.space cube area i → AreOvers m cube (set overs i (Some over))
overs-set m cube area overs i over are all low is = record {
  whole = length-set overs i (Some over) ∙ are.whole;
  known = λ j found at. by j found at (j == i) refl;
}
  where
    by : (j : ℕ) (found : Option ℕ) → slice_get (set overs i (Some over)) j ≡ Some (Some found) → (b : Bool) → (j == i) ≡ b → found ≡ area_over m.space cube whole_area j
    by j found at true same =
        let equal : j ≡ i = (Decides-eqb j i).0 same in
        let own : Some over ≡ Some found = sym (get_or-set_same overs i (Some over) None low) ∙ ap (λ k. get_or (set overs i (Some over)) k None) (sym equal) ∙ get_or_from_slice_get (set overs i (Some over)) j (Some found) None at in
        let one : over ≡ found = cc in
        sym one ∙ is ∙ over-whole m.space cube area i all ∙ ap (area_over m.space cube whole_area) (sym equal)
    by j found at false other =
        let differ : j ≡ i → ⊥ = (λ same. let yes : true ≡ false = sym (Rattle.std.proofs.Common.eq-eqb j i same) ∙ other in absurd (cc)) in
        let inside : j < length overs = omega (arith, slice_get_within (set overs i (Some over)) j (Some found) at, length-set overs i (Some over)) in
        let kept : get_or overs j None ≡ Some found = sym (get_or-set_other overs i j (Some over) None differ) ∙ get_or_from_slice_get (set overs i (Some over)) j (Some found) None at in
        are.known j found (slice_get-get_or overs j None inside ∙ ap Some kept)

-- the leaves of an area are elements of its dimension
pub area-leaves-below : (space : Layout) (cube : ℕ) (area : Area) (i : ℕ) → IsArea space cube area → i < length (axes space cube) → All (λ e. e < slice_index_or (sizes space cube) i 0) (area_leaves space cube area i)
area-leaves-below space cube area i is low =
    let (d, at) = axis-there (axes space cube) i low in
    subst (λ n. All (λ e. e < n) (area_leaves space cube area i)) (sym (size-at (axes space cube) i d at))
    (subst (λ (xs : List ℕ). All (λ e. e < length d.elements) xs) (ap (λ o. option_map_or (λ d. set_leaves d (slice_index_or area.sets i None)) o []) (sym at)) (leaves-below d (slice_index_or area.sets i None) (set-inside (axes space cube) area.sets i d is at)))
