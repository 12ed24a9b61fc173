-- Whether the element of a cell has components in a dimension.
use Rattle.std.proofs.Common.{◌≡◌, ◌↔◌, ℕ, ◌<◌, ◌≤◌, zero, suc, ℤ, List, [], ◌∷◌, length, Some, None, refl, sym, ap, ◌∙◌, subst, arith, All, slice_get, slice_index_or, Bool, true, false, not, IsTrue}
use Rattle.std.specs.Prelude.{is_some}
use Rattle.dim_core.specs.Outline.{Outline, components_of}
use Rattle.cube_space.specs.declared.shape.CubeShape.{CubeShape}
use Rattle.cube_space.specs.Layout.{Layout, axes, axes_of, sizes_of}
use Rattle.cube_space.specs.Cells.{IsSpace, is_place, cube_of, elements_of}
use Rattle.cube_space.specs.Radix.{are_digits}
use Rattle.cube_space.proofs.Places.{is_place-parts}
use Rattle.cube_space.proofs.AxisSizes.{All-rest}
use Rattle.rule_model.specs.Targets.{component_cells, element_at}
use Rattle.rule_model.proofs.Named.{axes_cons}
use Rattle.rule_model.proofs.Coefs.{dimension_at, digit_at}
use Rattle.rule_model.proofs.Shapes.{shape_dims, dims_within}
use Rattle.std.proofs.lemmas.Option.{slice_get-get_or, slice_get_past}

-- the dimension at a place
pub axis_at : (D : List Outline) (dims : List ℕ) (place axis : ℕ) (d : Outline) → All (λ k. k < length D) dims → slice_get dims place ≡ Some axis → slice_get D axis ≡ Some d → slice_get (axes_of D dims) place ≡ Some d
axis_at D [] place axis d all at is = absurd (cc at)
axis_at D (k ∷ dims) zero axis d all at is = let same : k ≡ axis = cc in ap (λ a. slice_get a 0) (axes_cons D k dims d (ap (slice_get D) same ∙ is))
axis_at D (k ∷ dims) (suc place) axis d all at is =
    let (x, there) = dimension_at D k (all 0 0 (omega arith)) in
    ap (λ a. slice_get a (suc place)) (axes_cons D k dims x there) ∙ axis_at D dims place axis d (All-rest (λ n. n < length D) k dims all) at is

pub no_axis : (D : List Outline) (dims : List ℕ) (place : ℕ) → All (λ k. k < length D) dims → slice_get dims place ≡ None → slice_get (axes_of D dims) place ≡ None
no_axis D [] place all at = refl
no_axis D (k ∷ dims) zero all at = absurd (cc at)
no_axis D (k ∷ dims) (suc place) all at =
    let (x, there) = dimension_at D k (all 0 0 (omega arith)) in
    ap (λ a. slice_get a (suc place)) (axes_cons D k dims x there) ∙ no_axis D dims place (All-rest (λ n. n < length D) k dims all) at

-- by whether the element is a leaf of the dimension
some_components : (space : Layout) (cell dim : ℕ) (d : Outline) (leaf : Bool) → slice_get (axes space (cube_of space cell)) dim ≡ Some d
    → IsTrue leaf ↔ (components_of d (element_at space cell dim) ≡ []) → not leaf ≡ is_some (component_cells space cell dim)
unfolding component_cells
some_components space cell dim d leaf at is = by leaf (components_of d (element_at space cell dim)) refl is
  where
    by : (leaf : Bool) (parts : List (ℕ × ℤ)) → components_of d (element_at space cell dim) ≡ parts → IsTrue leaf ↔ (components_of d (element_at space cell dim) ≡ []) → not leaf ≡ is_some (component_cells space cell dim)
    by true [] are is = rw (at, are) refl
    by true (part ∷ parts) are is = absurd (let none = is.0 refl in let clash : part ∷ parts ≡ [] = sym are ∙ none in cc)
    by false [] are is = absurd (let leaf = is.1 are in cc)
    by false (part ∷ parts) are is = rw (at, are) refl

no_components : (space : Layout) (cell dim : ℕ) → slice_get (axes space (cube_of space cell)) dim ≡ None → false ≡ is_some (component_cells space cell dim)
unfolding component_cells
no_components space cell dim at = rw at refl

module _ (space : Layout) (cube : ℕ) (shape : CubeShape) (dims elements : List ℕ) (dim : ℕ) (valid : IsSpace space) (there : is_place space cube elements ≡ true) (found : slice_get space.cubes cube ≡ Some shape) (named : dims ≡ shape.dims) where
  own_axes : axes space cube ≡ axes_of space.dimensions dims
  own_axes = shape_dims space cube shape found ∙ ap (axes_of space.dimensions) (sym named)

  within : All (λ k. k < length space.dimensions) dims
  within = subst (λ ds. All (λ k. k < length space.dimensions) ds) (sym named) (dims_within space cube shape valid found)

  pub axis_low : dim < length dims → slice_index_or dims dim 0 < length space.dimensions
  axis_low low = within dim 0 low

  pub element_low : (d : Outline) → dim < length dims → slice_get space.dimensions (slice_index_or dims dim 0) ≡ Some d → (dim < length elements) × (slice_index_or elements dim 0 < length d.elements)
  element_low d low is =
      digit_at space.dimensions dims elements dim d (ap (λ a. are_digits (sizes_of a) elements) (sym own_axes) ∙ (is_place-parts space cube elements there).digits) (λ i k l. within i k l) low is

  axis_there : (d : Outline) → dim < length dims → slice_get space.dimensions (slice_index_or dims dim 0) ≡ Some d → slice_get (axes space cube) dim ≡ Some d
  axis_there d low is = ap (λ a. slice_get a dim) own_axes ∙ axis_at space.dimensions dims dim (slice_index_or dims dim 0) d within (slice_get-get_or dims dim 0 low) is

  pub components_by : (d : Outline) (leaf : Bool) → dim < length dims → slice_get space.dimensions (slice_index_or dims dim 0) ≡ Some d → IsTrue leaf ↔ (components_of d (slice_index_or elements dim 0) ≡ [])
      → (cell : ℕ) → cube_of space cell ≡ cube → elements_of space cell ≡ elements → not leaf ≡ is_some (component_cells space cell dim)
  components_by d leaf low is tells cell own at =
      some_components space cell dim d leaf (ap (λ k. slice_get (axes space k) dim) own ∙ axis_there d low is)
      (subst (λ es. IsTrue leaf ↔ (components_of d (slice_index_or es dim 0) ≡ [])) (sym at) tells)

  pub components_past : length dims ≤ dim → (cell : ℕ) → cube_of space cell ≡ cube → false ≡ is_some (component_cells space cell dim)
  components_past past cell own =
      no_components space cell dim (ap (λ k. slice_get (axes space k) dim) own ∙ ap (λ a. slice_get a dim) own_axes ∙ no_axis space.dimensions dims dim within (slice_get_past dims dim past))
