-- What is known of a cube from its shape.
use Rattle.std.proofs.Common.{◌≡◌, ℕ, ◌<◌, ◌≤◌, zero, suc, List, [], ◌∷◌, length, map, Option, Some, None, refl, sym, ap, ◌∙◌, subst, arith, All, slice_get, slice_index_or}
use Rattle.std.proofs.Common.{◌++◌, take, pos, true, false, eqb, eq-eqb, Bool}
use Rattle.std.proofs.lemmas.List.{length-map}
use Rattle.std.proofs.Math.Seq.{take-append_seam}
use Rattle.std.proofs.lemmas.Bool.{ne_eqb}
use Rattle.cube_space.specs.Radix.{are_digits, product}
use Rattle.cube_space.proofs.Radix.{digits-length}
use Rattle.rule_model.specs.Weights.{weight, coef_product, greatest_coef, HasSmallProducts}
use Rattle.cube_space.specs.declared.shape.CubeShape.{CubeShape}
use Rattle.cube_space.specs.Layout.{Layout, axes, axes_of, sizes, sizes_of}
use Rattle.cube_space.specs.Cells.{IsSpace, IsCell, cube_of, elements_of, is_place, cell_number}
use Rattle.cube_space.proofs.Places.{cell-place, is_place-parts, is_place-from, cell_number-none}
use Rattle.cube_space.proofs.AxisSizes.{length-axes_of}
use Rattle.dim_core.specs.Outline.{Outline}
pub use Rattle.lists.proofs.Found.{found_holds}

pub found_dims : (cubes : List CubeShape) (cube : ℕ) (shape : CubeShape) → slice_get cubes cube ≡ Some shape → slice_index_or (map (λ s. s.dims) cubes) cube [] ≡ shape.dims
found_dims [] cube shape is = absurd (cc is)
found_dims (s ∷ cubes) zero shape is = let same : s ≡ shape = cc in ap (λ s. s.dims) same
found_dims (s ∷ cubes) (suc cube) shape is = found_dims cubes cube shape is

pub shape_dims : (space : Layout) (cube : ℕ) (shape : CubeShape) → slice_get space.cubes cube ≡ Some shape → axes space cube ≡ axes_of space.dimensions shape.dims
shape_dims space cube shape is = ap (axes_of space.dimensions) (found_dims space.cubes cube shape is)

pub axes_length : (D : List Outline) (ks : List ℕ) → All (λ k. k < length D) ks → length (axes_of D ks) ≡ length ks
axes_length D ks within = sym (length-map (axes_of D ks) (λ d. length d.elements)) ∙ length-axes_of D ks within

pub dims_within : (space : Layout) (cube : ℕ) (shape : CubeShape) → IsSpace space → slice_get space.cubes cube ≡ Some shape → All (λ dim. dim < length space.dimensions) shape.dims
dims_within space cube shape valid is = found_holds (λ s. All (λ dim. dim < length space.dimensions) s.dims) space.cubes cube shape valid.layout.in_range is

pub dims_few : (space : Layout) (cube : ℕ) (shape : CubeShape) → IsSpace space → slice_get space.cubes cube ≡ Some shape → length shape.dims ≤ 16
dims_few space cube shape valid is = (found_holds (λ s. (2 ≤ length s.dims) × (length s.dims ≤ 16)) space.cubes cube shape valid.counts is).1

-- the elements of a cell are in front of what the array had
pub elements_taken : (space : Layout) (cube : ℕ) (shape : CubeShape) (elements rest : List ℕ) → IsSpace space → slice_get space.cubes cube ≡ Some shape → are_digits (sizes space cube) elements ≡ true
    → take (length shape.dims) (elements ++ rest) ≡ elements
elements_taken space cube shape elements rest valid is are =
    let long = digits-length (sizes space cube) elements are in
    let own = ap sizes_of (shape_dims space cube shape is) in
    let few = length-axes_of space.dimensions shape.dims (dims_within space cube shape valid is) in
    let e : length shape.dims ≡ length elements = sym (long ∙ ap length own ∙ few) in
    ap (λ n. take n (elements ++ rest)) e ∙ take-append_seam elements rest

pub digits_taken : (space : Layout) (cube : ℕ) (shape : CubeShape) (elements rest : List ℕ) → IsSpace space → slice_get space.cubes cube ≡ Some shape → are_digits (sizes space cube) elements ≡ true
    → are_digits (sizes_of (axes_of space.dimensions shape.dims)) (take (length shape.dims) (elements ++ rest)) ≡ true
digits_taken space cube shape elements rest valid is are =
    ap (are_digits (sizes_of (axes_of space.dimensions shape.dims))) (elements_taken space cube shape elements rest valid is are)
    ∙ ap (λ s. are_digits s elements) (ap sizes_of (sym (shape_dims space cube shape is))) ∙ are

pub weight_apart : (space : Layout) (cell leaf : ℕ) → (cube_of space cell ≡ cube_of space leaf → ⊥) → pos 0 ≡ weight space cell leaf
unfolding weight
weight_apart space cell leaf differ =
    let e = ne_eqb (cube_of space cell) (cube_of space leaf) differ in rw e refl

pub weight_same : (space : Layout) (cell leaf : ℕ) → cube_of space cell ≡ cube_of space leaf → weight space cell leaf ≡ coef_product (axes space (cube_of space cell)) (elements_of space cell) (elements_of space leaf)
unfolding weight
weight_same space cell leaf same = let e : eqb (cube_of space cell) (cube_of space leaf) ≡ true = eq-eqb (cube_of space cell) (cube_of space leaf) same in rw e refl

-- the product over the elements that were found is the weight
pub weight_is : (space : Layout) (cell leaf cube : ℕ) (shape : CubeShape) (dims at below at_rest below_rest : List ℕ) → IsSpace space → IsCell space cell → IsCell space leaf
    → cube ≡ cube_of space cell → cube ≡ cube_of space leaf → slice_get space.cubes cube ≡ Some shape → dims ≡ shape.dims
    → at ≡ elements_of space cell ++ at_rest → below ≡ elements_of space leaf ++ below_rest
    → coef_product (axes_of space.dimensions dims) (take (length dims) at) (take (length dims) below) ≡ weight space cell leaf
weight_is space cell leaf cube shape dims at below at_rest below_rest valid is_cell is_leaf own other found named upper lower =
    let are : are_digits (sizes space cube) (elements_of space cell) ≡ true = ap (λ k. are_digits (sizes space k) (elements_of space cell)) own ∙ (cell-place space cell is_cell).place.digits in
    let are_below : are_digits (sizes space cube) (elements_of space leaf) ≡ true = ap (λ k. are_digits (sizes space k) (elements_of space leaf)) other ∙ (cell-place space leaf is_leaf).place.digits in
    let taken = ap (λ a. take (length shape.dims) a) upper ∙ elements_taken space cube shape (elements_of space cell) at_rest valid found are in
    let taken_below = ap (λ a. take (length shape.dims) a) lower ∙ elements_taken space cube shape (elements_of space leaf) below_rest valid found are_below in
    ap (λ ds. coef_product (axes_of space.dimensions ds) (take (length ds) at) (take (length ds) below)) named
    ∙ ap (λ es. coef_product (axes_of space.dimensions shape.dims) es (take (length shape.dims) below)) taken
    ∙ ap (λ es. coef_product (axes_of space.dimensions shape.dims) (elements_of space cell) es) taken_below
    ∙ ap (λ a. coef_product a (elements_of space cell) (elements_of space leaf)) (sym (shape_dims space cube shape found) ∙ ap (axes space) own)
    ∙ sym (weight_same space cell leaf (sym own ∙ other))

pub digits_found : (space : Layout) (cell cube : ℕ) (shape : CubeShape) (dims at rest : List ℕ) → IsSpace space → IsCell space cell → cube ≡ cube_of space cell → slice_get space.cubes cube ≡ Some shape → dims ≡ shape.dims → at ≡ elements_of space cell ++ rest
    → are_digits (sizes_of (axes_of space.dimensions dims)) (take (length dims) at) ≡ true
digits_found space cell cube shape dims at rest valid is_cell own found named upper =
    let are : are_digits (sizes space cube) (elements_of space cell) ≡ true = ap (λ k. are_digits (sizes space k) (elements_of space cell)) own ∙ (cell-place space cell is_cell).place.digits in
    ap (λ ds. are_digits (sizes_of (axes_of space.dimensions ds)) (take (length ds) at)) named
    ∙ ap (λ a. are_digits (sizes_of (axes_of space.dimensions shape.dims)) (take (length shape.dims) a)) upper
    ∙ digits_taken space cube shape (elements_of space cell) rest valid found are

pub small_found : (space : Layout) (cell cube : ℕ) (shape : CubeShape) (dims : List ℕ) → HasSmallProducts space → IsCell space cell → cube ≡ cube_of space cell → slice_get space.cubes cube ≡ Some shape → dims ≡ shape.dims
    → product (map greatest_coef (axes_of space.dimensions dims)) ≤ 1000000000
small_found space cell cube shape dims small is_cell own found named =
    let there : cube < length space.cubes = subst (λ k. k < length space.cubes) (sym own) (cell-place space cell is_cell).place.there in
    subst (λ a. product (map greatest_coef a) ≤ 1000000000) (shape_dims space cube shape found ∙ ap (axes_of space.dimensions) (sym named)) (small cube there)

-- the elements of a cell are in front of what the array had
pub place_taken : (space : Layout) (cell cube : ℕ) (shape : CubeShape) (dims at rest : List ℕ) → IsSpace space → IsCell space cell → cube ≡ cube_of space cell → slice_get space.cubes cube ≡ Some shape → dims ≡ shape.dims → at ≡ elements_of space cell ++ rest
    → take (length dims) at ≡ elements_of space cell
place_taken space cell cube shape dims at rest valid is_cell own found named is =
    let are : are_digits (sizes space cube) (elements_of space cell) ≡ true = ap (λ k. are_digits (sizes space k) (elements_of space cell)) own ∙ (cell-place space cell is_cell).place.digits in
    ap (λ ds. take (length ds) at) named ∙ ap (λ a. take (length shape.dims) a) is ∙ elements_taken space cube shape (elements_of space cell) rest valid found are

-- no cube has more dimensions than 16
pub few_sizes : (space : Layout) (cube : ℕ) → IsSpace space → length (sizes space cube) ≤ 16
few_sizes space cube valid = by (slice_get space.cubes cube) refl
  where
    none : (cubes : List CubeShape) (cube : ℕ) → slice_get cubes cube ≡ None → slice_index_or (map (λ s. s.dims) cubes) cube [] ≡ []
    none [] cube is = refl
    none (s ∷ cubes) zero is = absurd (cc is)
    none (s ∷ cubes) (suc cube) is = none cubes cube is

    by : (found : Option CubeShape) → slice_get space.cubes cube ≡ found → length (sizes space cube) ≤ 16
    by None is = rw (none space.cubes cube is) (omega arith)
    by (Some shape) is =
        let e : length (sizes space cube) ≡ length shape.dims = ap (λ a. length (sizes_of a)) (shape_dims space cube shape is) ∙ length-axes_of space.dimensions shape.dims (dims_within space cube shape valid is) in
        omega (arith, e, dims_few space cube shape valid is)

-- so there is no cell of more elements
pub none_of_many : (space : Layout) (cube : ℕ) (elements : List ℕ) → IsSpace space → 16 < length elements → None ≡ cell_number space cube elements
none_of_many space cube elements valid many = by (is_place space cube elements) refl
  where
    by : (there : Bool) → is_place space cube elements ≡ there → None ≡ cell_number space cube elements
    by true is =
        let place = is_place-parts space cube elements is in
        absurd (omega (arith, digits-length (sizes space cube) elements place.digits, few_sizes space cube valid, many))
    by false is = cell_number-none space cube elements is

-- the cube and the elements that were read of a cell
pub read_place : (space : Layout) (cell cube : ℕ) (elements : List ℕ) → IsCell space cell → cube ≡ cube_of space cell → elements ≡ elements_of space cell → is_place space cube elements ≡ true
read_place space cell cube elements is_cell own is =
    ap (λ k. is_place space k elements) own ∙ ap (is_place space (cube_of space cell)) is
    ∙ is_place-from space (cube_of space cell) (elements_of space cell) (cell-place space cell is_cell).place
