-- Where a cell stands: its cube, the dimensions of that, and the elements that are read from its number.
use Rattle.std.proofs.Common.{◌≡◌, sym, ◌∙◌, ap, subst, ℕ, ◌<◌, ◌≤◌, true, List, [], ◌++◌, length, take, Some, pos, refl}
use Rattle.std.specs.Prelude.{slice_get, All}
use Rattle.std.proofs.lemmas.Bool.{ne_eqb}
use Rattle.std.proofs.lemmas.List.{get_or-map, take_at}
use Rattle.std.proofs.lemmas.Option.{slice_get_within, get_or_from_slice_get}
use Rattle.cube_space.specs.declared.shape.CubeShape.{CubeShape}
use Rattle.cube_space.specs.Radix.{are_digits}
use Rattle.cube_space.specs.Layout.{Layout, axes, axes_of, sizes_of, most_dimensions}
use Rattle.cube_space.specs.Cells.{IsSpace, IsCell, cube_of, elements_of}
use Rattle.cube_space.proofs.AxisSizes.{length-axes_of}
use Rattle.cube_space.proofs.Radix.{digits-length}
use Rattle.cube_space.proofs.Places.{cell-place}
use Rattle.cube_space.proofs.LeafCells.{cell-read-as}
use Rattle.rule_model.specs.Weights.{weight}

pub record IsPlaced (space : Layout) (cell cube : ℕ) (dims at : List ℕ) : Type 0 where
  pub there : cube < length space.cubes
  pub few : length dims ≤ most_dimensions
  pub in_range : All (λ dim. dim < length space.dimensions) dims
  pub axes_are : axes_of space.dimensions dims ≡ axes space cube
  pub its_axes : axes_of space.dimensions dims ≡ axes space (cube_of space cell)
  pub digits : are_digits (sizes_of (axes_of space.dimensions dims)) (take (length dims) at) ≡ true
  pub elements : take (length dims) at ≡ elements_of space cell
  pub long : length dims ≡ length (take (length dims) at)

pub placed : (space : Layout) (cell cube : ℕ) (shape : CubeShape) (dims at rest : List ℕ) → IsSpace space → IsCell space cell → cube ≡ cube_of space cell → slice_get space.cubes cube ≡ Some shape
    → dims ≡ shape.dims → at ≡ elements_of space cell ++ rest → IsPlaced space cell cube dims at
placed space cell cube shape dims at rest valid is_cell own found its shown =
    let read = cell-read-as space cell cube shape space.dimensions dims at rest valid is_cell own found refl its shown in
    let place = (cell-place space cell is_cell).place in
    let within = slice_get_within space.cubes cube shape found in
    let named : axes space cube ≡ axes_of space.dimensions dims =
    ap (axes_of space.dimensions) (get_or-map (λ s. s.dims) space.cubes cube shape [] within ∙ ap (λ (s : CubeShape). s.dims) (get_or_from_slice_get space.cubes cube shape shape found) ∙ sym its) in
    let same : axes_of space.dimensions dims ≡ axes space (cube_of space cell) = sym named ∙ ap (axes space) own in
    let count : length (elements_of space cell) ≡ length dims =
    digits-length (sizes_of (axes space (cube_of space cell))) (elements_of space cell) place.digits ∙ ap (λ ds. length (sizes_of ds)) (sym same) ∙ length-axes_of space.dimensions dims read.in_range in
    let elements : take (length dims) at ≡ elements_of space cell = ap (take (length dims)) shown ∙ take_at (elements_of space cell) rest (length dims) count in
    record {
      there = subst (λ (k : ℕ). k < length space.cubes) (sym own) place.there;
      few = read.few;
      in_range = read.in_range;
      axes_are = sym named;
      its_axes = same;
      digits = read.digits;
      elements = elements;
      long = sym (ap length elements ∙ count);
    }

-- a cell of another cube has the weight 0
pub weight-other : (space : Layout) (cell x : ℕ) → (cube_of space cell ≡ cube_of space x → ⊥) → weight space cell x ≡ pos 0
unfolding weight
weight-other space cell x apart = let e = ne_eqb (cube_of space cell) (cube_of space x) apart in rw e refl
