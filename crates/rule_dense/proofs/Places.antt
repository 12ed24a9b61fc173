-- The dimension at a place of a cell's cube, and the parts of the cell's element there.
use Rattle.std.proofs.Common.{◌≡◌, refl, sym, ◌∙◌, ap, subst, arith, ℕ, zero, suc, ◌<◌, ◌≤◌, true, ℤ, List, [], ◌∷◌, length, take, get_or, Some, None, inl, inr, ◌⊎◌}
use Rattle.std.specs.Prelude.{slice_get, All}
use Rattle.std.proofs.lemmas.List.{get_or-take, length-map}
use Rattle.std.proofs.lemmas.List.Elements.{All-tail}
use Rattle.std.proofs.lemmas.Option.{slice_get_cases, slice_get_past}
use Rattle.dim_core.specs.Outline.{Outline, components_of}
use Rattle.model_laws.proofs.Levels.{element-of}
use Rattle.rule_model.specs.Targets.{parts_at}
use Rattle.cube_space.specs.Radix.{are_digits}
use Rattle.cube_space.specs.Layout.{Layout, axes, axes_of, sizes_of}
use Rattle.cube_space.specs.Cells.{cube_of, elements_of}
use Rattle.cube_space.proofs.AxisSizes.{length-axes_of}

-- ---- the dimension at a place

axis-at : (D : List Outline) (dims : List ℕ) (n : ℕ) → All (λ dim. dim < length D) dims → n < length dims → slice_get (axes_of D dims) n ≡ slice_get D (get_or dims n 0)
axis-at D [] n within low = absurd (omega (arith, low))
axis-at D (k ∷ dims) n within low = by (slice_get_cases D k).1 n low (λ n less. axis-at D dims n (All-tail (λ dim. dim < length D) k dims within) less)
  where
    by : ((x : Outline) × (k < length D) × (slice_get D k ≡ Some x) × (get_or D k x ≡ x)) ⊎ ((length D ≤ k) × (slice_get D k ≡ None)) → (n : ℕ) → n < length (k ∷ dims)
        → ((n : ℕ) → n < length dims → slice_get (axes_of D dims) n ≡ slice_get D (get_or dims n 0)) → slice_get (axes_of D (k ∷ dims)) n ≡ slice_get D (get_or (k ∷ dims) n 0)
    by (inr past) n low later = absurd (omega (arith, past.0, within 0 0 (omega arith)))
    by (inl (x, less, is, same)) zero low later = rw is refl
    by (inl (x, less, is, same)) (suc n) low later = rw is (later n (omega (arith, low)))

module _ (space : Layout) (cell dim : ℕ) (dims at : List ℕ) (within : All (λ dim. dim < length space.dimensions) dims)
    (are : are_digits (sizes_of (axes_of space.dimensions dims)) (take (length dims) at) ≡ true)
    (its : axes_of space.dimensions dims ≡ axes space (cube_of space cell)) (elements : take (length dims) at ≡ elements_of space cell) where
  pub parts-past : length dims ≤ dim → [] ≡ parts_at space cell dim
  parts-past past =
      let long : length (axes_of space.dimensions dims) ≡ length dims = sym (length-map (axes_of space.dimensions dims) (λ d. length d.elements)) ∙ length-axes_of space.dimensions dims within in
      let none : slice_get (axes space (cube_of space cell)) dim ≡ None = ap (λ ds. slice_get ds dim) (sym its) ∙ slice_get_past (axes_of space.dimensions dims) dim (omega (arith, past, long)) in
      rw none refl

  module _ (d : Outline) (low : dim < length dims) (found : slice_get space.dimensions (get_or dims dim 0) ≡ Some d) where
    here : slice_get (axes_of space.dimensions dims) dim ≡ Some d
    here = axis-at space.dimensions dims dim within low ∙ found

    same : get_or (elements_of space cell) dim 0 ≡ get_or at dim 0
    same = ap (λ (es : List ℕ). get_or es dim 0) (sym elements) ∙ get_or-take (length dims) at dim 0 low

    pub element-there : get_or at dim 0 < length d.elements
    element-there =
        let there = (element-of (axes_of space.dimensions dims) (take (length dims) at) dim d are here).1 in
        subst (λ (e : ℕ). e < length d.elements) (get_or-take (length dims) at dim 0 low) there

    pub parts-here : (parts : List (ℕ × ℤ)) → parts ≡ components_of d (get_or at dim 0) → parts ≡ parts_at space cell dim
    parts-here parts is =
        let own : slice_get (axes space (cube_of space cell)) dim ≡ Some d = ap (λ ds. slice_get ds dim) (sym its) ∙ here in
        is ∙ ap (components_of d) (sym same) ∙ rw own refl
