-- Whether an area stands for a cell, dimension by dimension.
use Rattle.std.proofs.Common.{◌≡◌, refl, sym, ap, ◌∙◌, subst, ℕ, zero, suc, ◌+◌, ◌<◌, ◌≤◌, inl, inr, true, ◌&&◌, ℤ, List, [], ◌∷◌, ◌++◌, length, take, drop, get_or, Option, Some, None, arith}
use Rattle.std.specs.Prelude.{slice_get}
use Rattle.std.specs.List.{All, AllZip}
use Rattle.std.proofs.lemmas.List.{take_more, drop_more, drop_all, get_or-map, length-map, get_or_default as get_or-default}
use Rattle.std.proofs.lemmas.List.Elements.{All-tail}
use Rattle.std.proofs.lemmas.Option.{slice_get_within, slice_get_cases, get_or_from_slice_get}
use Rattle.dim_core.specs.Outline.{Outline}
use Rattle.dim_weights.specs.Table.{IsWeightsOf}
use Rattle.feed_sources.specs.Inside.Above.{IsAboveOf}
use Rattle.cube_space.specs.Radix.{are_digits}
use Rattle.cube_space.specs.Layout.{axes_of, sizes_of}
use Rattle.rule_model.specs.Areas.{in_source_set, in_source_sets}
use Rattle.rule_model.specs.Conditions.{IsSet}
use Rattle.model_laws.proofs.Levels.{element-of}
use Rattle.feed_sources.proofs.Axes.{axes-from}
pub use Rattle.rule_model.proofs.Coefs.{dimension_at as dimension-there}
pub use Rattle.dim_weights.proofs.Nonzero.{counts-nonzero as nonzero-is}

-- lists of pairs that go together
pub zip-length : {A B : Type 0} (R : A → B → Type 0) (xs : List A) (ys : List B) → AllZip R xs ys → length xs ≡ length ys
zip-length R [] [] zip = refl
zip-length R [] (y ∷ ys) zip = absurd zip
zip-length R (x ∷ xs) [] zip = absurd zip
zip-length R (x ∷ xs) (y ∷ ys) zip = ap suc (zip-length R xs ys zip.1)

pub zip-at : {A B : Type 0} (R : A → B → Type 0) (xs : List A) (ys : List B) (k : ℕ) (d : A) (e : B) → AllZip R xs ys → k < length xs → R (get_or xs k d) (get_or ys k e)
zip-at R [] ys k d e zip low = absurd (omega (arith, low))
zip-at R (x ∷ xs) [] k d e zip low = absurd zip
zip-at R (x ∷ xs) (y ∷ ys) zero d e zip low = zip.0
zip-at R (x ∷ xs) (y ∷ ys) (suc k) d e zip low = zip-at R xs ys k d e zip.1 (omega (arith, low))

-- what goes with a dimension
goes-with : {X : Type 0} (R : Outline → X → Type 0) (D : List Outline) (W : List X) (k : ℕ) (d : Outline) (w : X) → AllZip R D W → slice_get D k ≡ Some d
    → (k < length W) × (w ≡ get_or W k w → R d w)
goes-with R D W k d w zip found =
    let low = slice_get_within D k d found in
    let here : R (get_or D k d) (get_or W k w) = zip-at R D W k d w zip low in
    let own : R d (get_or W k w) = subst (λ (o : Outline). R o (get_or W k w)) (get_or_from_slice_get D k d d found) here in
    (omega (arith, low, zip-length R D W zip), λ is. subst (R d) (sym is) own)

-- its coefficients
pub weights-there : (D : List Outline) (W : List (List (List (ℕ × ℤ)))) (k : ℕ) (d : Outline) (w : List (List (ℕ × ℤ))) → AllZip IsWeightsOf D W → slice_get D k ≡ Some d
    → (k < length W) × (w ≡ get_or W k w → IsWeightsOf d w)
weights-there = goes-with IsWeightsOf

-- what its leaves count in
pub above-there : (D : List Outline) (A : List (List (List ℕ))) (k : ℕ) (d : Outline) (a : List (List ℕ)) → AllZip IsAboveOf D A → slice_get D k ≡ Some d
    → (k < length A) × (a ≡ get_or A k a → IsAboveOf d a)
above-there = goes-with IsAboveOf

-- one dimension more
pub above-one : (D : List Outline) (A after : List (List (List ℕ))) (k : ℕ) (d : Outline) (a : List (List ℕ)) → AllZip IsAboveOf (take k D) A → slice_get D k ≡ Some d → IsAboveOf d a → after ≡ A ++ a ∷ []
    → AllZip IsAboveOf (take (k + 1) D) after
above-one D A after k d a zip found own is =
    let low = slice_get_within D k d found in
    let more : take (k + 1) D ≡ take k D ++ d ∷ [] = take_more D k d low ∙ ap (λ (o : Outline). take k D ++ o ∷ []) (get_or_from_slice_get D k d d found) in
    subst (λ (ds : List Outline). AllZip IsAboveOf ds after) (sym more) (subst (λ (all : List (List (List ℕ))). AllZip IsAboveOf (take k D ++ d ∷ []) all) (sym is) (zip-last (take k D) A zip))
  where
    zip-last : (xs : List Outline) (ys : List (List (List ℕ))) → AllZip IsAboveOf xs ys → AllZip IsAboveOf (xs ++ d ∷ []) (ys ++ a ∷ [])
    zip-last [] [] zip = (own, tt)
    zip-last [] (y ∷ ys) zip = absurd zip
    zip-last (x ∷ xs) [] zip = absurd zip
    zip-last (x ∷ xs) (y ∷ ys) zip = (zip.0, zip-last xs ys zip.1)

pub axis-at : (D : List Outline) (dims : List ℕ) (place : ℕ) (d : Outline) → All (λ dim. dim < length D) dims → place < length dims → slice_get D (get_or dims place 0) ≡ Some d
    → slice_get (axes_of D dims) place ≡ Some d
axis-at D [] place d all low found = absurd (omega (arith, low))
axis-at D (k ∷ dims) zero d all low found = rw found refl
axis-at D (k ∷ dims) (suc place) d all low found =
    elim (slice_get_cases D k).1 [
      | inl some ↦ rw some.2 (axis-at D dims place d (All-tail (λ dim. dim < length D) k dims all) (omega (arith, low)) found)
      | inr none ↦ absurd (let there = all 0 0 (omega arith) in omega (arith, there, none.0))
    ]

-- what is known of a set and of an element at a place
pub set-at : (D : List Outline) (dims : List ℕ) (sets : List (Option (List ℕ))) (place : ℕ) (d : Outline) → All (λ dim. dim < length D) dims → AllZip IsSet (sizes_of (axes_of D dims)) sets
    → place < length dims → slice_get D (get_or dims place 0) ≡ Some d → (place < length sets) × IsSet (length d.elements) (get_or sets place None)
set-at D dims sets place d all zip low found =
    let here = axis-at D dims place d all low found in
    let within = slice_get_within (axes_of D dims) place d here in
    let size : get_or (sizes_of (axes_of D dims)) place 0 ≡ length d.elements =
    get_or-map (λ (o : Outline). length o.elements) (axes_of D dims) place d 0 within ∙ ap (λ (o : Outline). length o.elements) (get_or_from_slice_get (axes_of D dims) place d d here) in
    let many : place < length (sizes_of (axes_of D dims)) = omega (arith, within, length-map (axes_of D dims) (λ (o : Outline). length o.elements)) in (
      omega (arith, many, zip-length IsSet (sizes_of (axes_of D dims)) sets zip),
      subst (λ (n : ℕ). IsSet n (get_or sets place None)) size (zip-at IsSet (sizes_of (axes_of D dims)) sets place 0 None zip many),
    )

pub element-at : (D : List Outline) (dims elements : List ℕ) (place : ℕ) (d : Outline) → All (λ dim. dim < length D) dims → are_digits (sizes_of (axes_of D dims)) elements ≡ true
    → place < length dims → slice_get D (get_or dims place 0) ≡ Some d → (place < length elements) × (get_or elements place 0 < length d.elements)
element-at D dims elements place d all digits low found = element-of (axes_of D dims) elements place d digits (axis-at D dims place d all low found)

-- one dimension more
pub sources-turn : (D : List Outline) (dims : List ℕ) (sets : List (Option (List ℕ))) (elements : List ℕ) (place : ℕ) (d : Outline)
    → place < length dims → place < length sets → place < length elements → slice_get D (get_or dims place 0) ≡ Some d
    → in_source_sets (axes_of D (drop place dims)) (drop place sets) (drop place elements)
    ≡ (in_source_set d (get_or sets place None) (get_or elements place 0) && in_source_sets (axes_of D (drop (place + 1) dims)) (drop (place + 1) sets) (drop (place + 1) elements))
unfolding in_source_sets
sources-turn D dims sets elements place d low also there found =
    rw (axes-from D dims place d low found) (rw (drop_more sets place None also) (rw (drop_more elements place 0 there) refl))

pub sources-end : (D : List Outline) (dims : List ℕ) (sets : List (Option (List ℕ))) (elements : List ℕ) (place : ℕ) → length dims ≤ place
    → in_source_sets (axes_of D (drop place dims)) (drop place sets) (drop place elements) ≡ true
unfolding in_source_sets
sources-end D dims sets elements place past = rw (drop_all place dims past) refl

-- what is read at a place, whatever is told past the end
pub same-at : {X : Type 0} (xs : List X) (place : ℕ) (d x : X) → place < length xs → x ≡ get_or xs place x → get_or xs place d ≡ x
same-at xs place d x low is = get_or-default xs place d x low ∙ sym is
