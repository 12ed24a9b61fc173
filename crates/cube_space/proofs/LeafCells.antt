-- What is read of a cell to tell whether it is a leaf cell.
use Rattle.std.proofs.Common.{◌≡◌, ℕ, ◌<◌, ◌≤◌, true, Some, List, [], ◌++◌, length, get_or, take, ap, sym, ◌∙◌, subst, All, slice_get}
use Rattle.std.proofs.lemmas.List.{get_or-map, take_at}
use Rattle.std.proofs.lemmas.Option.{slice_get_within, get_or_from_slice_get}
use Rattle.dim_core.specs.Outline.{Outline}
use Rattle.cube_space.specs.declared.shape.CubeShape.{CubeShape}
use Rattle.cube_space.specs.Radix.{are_digits}
use Rattle.cube_space.specs.Layout.{Layout, dims_of, axes, axes_of, sizes_of}
use Rattle.cube_space.specs.Cells.{IsSpace, IsCell, cube_of, elements_of, are_leaves, is_leaf_cell}
use Rattle.cube_space.proofs.AxisSizes.{length-axes_of}
use Rattle.cube_space.proofs.Radix.{digits-length}
use Rattle.cube_space.proofs.Places.{cell-place}

pub record IsRead (layout : Layout) (cell : ℕ) (dimensions : List Outline) (dims at : List ℕ) : Type 0 where
  pub few : length dims ≤ 16
  pub in_range : All (λ dim. dim < length dimensions) dims
  pub digits : are_digits (sizes_of (axes_of dimensions dims)) (take (length dims) at) ≡ true
  pub leaves : are_leaves (axes_of dimensions dims) (take (length dims) at) ≡ is_leaf_cell layout cell

cell-read : (layout : Layout) (cell cube : ℕ) (shape : CubeShape) (at rest : List ℕ) → IsSpace layout → IsCell layout cell → cube ≡ cube_of layout cell → slice_get layout.cubes cube ≡ Some shape
    → at ≡ elements_of layout cell ++ rest → IsRead layout cell layout.dimensions shape.dims at
unfolding is_leaf_cell
cell-read layout cell cube shape at rest valid h own shaped shown =
    let within = slice_get_within layout.cubes cube shape shaped in
    let here : get_or layout.cubes cube shape ≡ shape = get_or_from_slice_get layout.cubes cube shape shape shaped in
    let dims : dims_of layout (cube_of layout cell) ≡ shape.dims = ap (dims_of layout) (sym own) ∙ get_or-map (λ s. s.dims) layout.cubes cube shape [] within ∙ ap (λ s. s.dims) here in
    let Range : CubeShape → Type 0 = λ s. All (λ dim. dim < length layout.dimensions) s.dims in
    let Few : CubeShape → Type 0 = λ s. length s.dims ≤ 16 in
    let range = subst Range here (valid.layout.in_range cube shape within) in
    let place = (cell-place layout cell h).place in
    let axes-are : axes layout (cube_of layout cell) ≡ axes_of layout.dimensions shape.dims = ap (axes_of layout.dimensions) dims in
    let Are : List ℕ → Type 0 = λ es. are_digits (sizes_of (axes_of layout.dimensions shape.dims)) es ≡ true in
    let digits : are_digits (sizes_of (axes_of layout.dimensions shape.dims)) (elements_of layout cell) ≡ true =
    ap (λ ds. are_digits (sizes_of ds) (elements_of layout cell)) (sym axes-are) ∙ place.digits in
    let count : length (elements_of layout cell) ≡ length shape.dims = digits-length (sizes_of (axes_of layout.dimensions shape.dims)) (elements_of layout cell) digits ∙ length-axes_of layout.dimensions shape.dims range in
    let taken : take (length shape.dims) at ≡ elements_of layout cell = ap (take (length shape.dims)) shown ∙ take_at (elements_of layout cell) rest (length shape.dims) count in
    record {
      few = subst Few here (valid.counts cube shape within).1;
      in_range = range;
      digits = subst Are (sym taken) digits;
      leaves = ap (are_leaves (axes_of layout.dimensions shape.dims)) taken ∙ ap (λ ds. are_leaves ds (elements_of layout cell)) (sym axes-are);
    }

pub cell-read-as : (layout : Layout) (cell cube : ℕ) (shape : CubeShape) (dimensions : List Outline) (dims at rest : List ℕ) → IsSpace layout → IsCell layout cell → cube ≡ cube_of layout cell → slice_get layout.cubes cube ≡ Some shape
    → dimensions ≡ layout.dimensions → dims ≡ shape.dims → at ≡ elements_of layout cell ++ rest → IsRead layout cell dimensions dims at
cell-read-as layout cell cube shape dimensions dims at rest valid h own shaped same its shown =
    let P : List Outline → Type 0 = λ ds. IsRead layout cell ds dims at in
    let Q : List ℕ → Type 0 = λ ds. IsRead layout cell layout.dimensions ds at in
    subst P (sym same) (subst Q (sym its) (cell-read layout cell cube shape at rest valid h own shaped shown))
