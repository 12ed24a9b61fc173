-- The dimensions of a cube are those of its shape.
use Rattle.std.proofs.Common.{◌≡◌, ◌<◌, ◌∙◌, ℕ, [], length, Some, All, ap, slice_get}
use Rattle.std.proofs.lemmas.List.{get_or-map}
use Rattle.std.proofs.lemmas.Option.{slice_get_within, get_or_from_slice_get}
use Rattle.lists.proofs.Found.{found_holds}
use Rattle.cube_space.specs.declared.shape.CubeShape.{CubeShape}
use Rattle.cube_space.specs.Layout.{Layout, dims_of}
use Rattle.cube_space.specs.Cells.{IsSpace}

module _ (space : Layout) (cube : ℕ) (shape : CubeShape) (valid : IsSpace space) (is : slice_get space.cubes cube ≡ Some shape) where
  pub dims_are : dims_of space cube ≡ shape.dims
  dims_are = get_or-map (λ s. s.dims) space.cubes cube shape [] (slice_get_within space.cubes cube shape is) ∙ ap (λ s. s.dims) (get_or_from_slice_get space.cubes cube shape shape is)

  pub dims_within : All (λ dim. dim < length space.dimensions) shape.dims
  dims_within = found_holds (λ s. All (λ dim. dim < length space.dimensions) s.dims) space.cubes cube shape valid.layout.in_range is
