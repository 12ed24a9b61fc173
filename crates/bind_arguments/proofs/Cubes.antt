-- The dimensions of a cube.
use Rattle.std.proofs.Common.{◌≡◌, ℕ, ◌<◌, ◌≤◌, List, length, get_or, Some, ap, ◌∙◌, slice_get, nat_lt, true, ◌&&◌, eq-eqb}
use Rattle.cube_space.specs.declared.shape.CubeShape.{CubeShape}
use Rattle.std.proofs.lemmas.Bool.{and_from, lt-ltb}
use Rattle.bind_arguments.specs.Inside.Within.{is_dimension, is_placed}
use Rattle.cube_space.specs.Cells.{IsSpace}
use Rattle.cube_space.specs.Layout.{Layout, dims_of}
use Rattle.lists.proofs.Found.{found_holds}
pub use Rattle.cube_space.proofs.CubeDims.{dims_are, dims_within}

module _ (space : Layout) (cube : ℕ) (shape : CubeShape) (valid : IsSpace space) (is : slice_get space.cubes cube ≡ Some shape) where
  pub dims_count : (2 ≤ length shape.dims) × (length shape.dims ≤ 16)
  dims_count = found_holds (λ s. (2 ≤ length s.dims) × (length s.dims ≤ 16)) space.cubes cube shape valid.counts is

-- a dimension at a place of a cube
pub placed : (space : Layout) (cube place : ℕ) (dims : List ℕ) → dims_of space cube ≡ dims → place < length dims → get_or dims place 0 < length space.dimensions
    → (is_dimension space (get_or dims place 0) && is_placed space cube place (get_or dims place 0)) ≡ true
placed space cube place dims are low there =
    and_from _ _ (lt-ltb _ _ there)
    (and_from _ _ (ap (λ l. nat_lt place (length l)) are ∙ lt-ltb _ _ low) (eq-eqb _ _ (ap (λ l. get_or l place 0) are)))
