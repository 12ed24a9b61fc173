-- Whether elements are leaves, one dimension after another.
use Rattle.std.proofs.Common.{◌≡◌, ◌↔◌, ℕ, ◌+◌, ◌<◌, Bool, true, false, ◌&&◌, List, [], ◌∷◌, length, get_or, drop, refl, ap, sym, ◌∙◌, arith, nat_lt, eqb}
use Rattle.std.proofs.lemmas.Bool.{and_parts, ltb-true, ne_eqb}
use Rattle.std.proofs.lemmas.List.{drop_more}
use Rattle.dim_core.specs.Outline.{Outline, components_of}
use Rattle.cube_space.specs.Radix.{are_digits}
use Rattle.cube_space.specs.Layout.{axes_of, sizes_of}
use Rattle.cube_space.specs.Cells.{is_leaf, are_leaves}
use Rattle.cube_space.proofs.AxisSizes.{axes_of-cons}

-- a test that is true exactly of elements without components
pub is_leaf-test : (dimension : Outline) (element : ℕ) (b : Bool) → (b ≡ true) ↔ (components_of dimension element ≡ []) → b ≡ is_leaf dimension element
is_leaf-test dimension element b iff = by b (components_of dimension element) iff
  where
    by : {A : Type 0} (b : Bool) (xs : List A) → (b ≡ true) ↔ (xs ≡ []) → b ≡ eqb (length xs) 0
    by true [] iff = refl
    by true (x ∷ xs) iff = absurd (cc (iff.0 refl))
    by false [] iff = iff.1 refl
    by false (x ∷ xs) iff = sym (ne_eqb (length (x ∷ xs)) 0 (λ e. omega (arith, e)))

module _ (dimensions : List Outline) (dims elements : List ℕ) (i : ℕ) (dimension : Outline) (h : i < length dims) (g : i < length elements)
    (within : get_or dims i 0 < length dimensions) (is : dimension ≡ get_or dimensions (get_or dims i 0) dimension) where
  axes-turn : axes_of dimensions (drop i dims) ≡ dimension ∷ axes_of dimensions (drop (i + 1) dims)
  axes-turn =
      rw (drop_more dims i 0 h)
      (axes_of-cons dimensions (get_or dims i 0) (drop (i + 1) dims) dimension within ∙ ap (λ d. d ∷ axes_of dimensions (drop (i + 1) dims)) (sym is))

  -- one digit more
  pub digits-turn : are_digits (sizes_of (axes_of dimensions (drop i dims))) (drop i elements) ≡ true
      → (get_or elements i 0 < length dimension.elements) × (are_digits (sizes_of (axes_of dimensions (drop (i + 1) dims))) (drop (i + 1) elements) ≡ true)
  digits-turn are =
      let parts = and_parts (nat_lt (get_or elements i 0) (length dimension.elements)) (are_digits (sizes_of (axes_of dimensions (drop (i + 1) dims))) (drop (i + 1) elements)) (rw (axes-turn, drop_more elements i 0 g) at are) in
      (ltb-true _ _ parts.0, parts.1)

  -- one element more
  pub leaves-turn : are_leaves (axes_of dimensions (drop i dims)) (drop i elements) ≡ (is_leaf dimension (get_or elements i 0) && are_leaves (axes_of dimensions (drop (i + 1) dims)) (drop (i + 1) elements))
  leaves-turn = rw (axes-turn, drop_more elements i 0 g) refl
