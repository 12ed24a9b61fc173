-- What contracts see of a space: its dimensions, and which of them each cube has.
use Rattle.std.specs.Prelude.{ℕ, ◌<◌, ◌^◌, List, [], map, length, nat_eq, All, slice_get, slice_index_or}
use Rattle.std.specs.List.{IsDistinct, filter_map}
use Rattle.dim_name.specs.Name.{is_same_name}
use Rattle.dim_core.specs.Outline.{Outline}
use Rattle.cube_space.specs.declared.shape.CubeShape.{CubeShape}

-- the dimensions and the cubes of a model, each by number
pub record Layout : Type 0 where
  pub dimensions : List Outline
  pub cubes : List CubeShape

-- how many dimensions a cube has at least, and at most
abbrev pub fewest_dimensions : ℕ
fewest_dimensions = 2

abbrev pub most_dimensions : ℕ
most_dimensions = 16

-- how many cells all cubes together have at most
abbrev pub most_model_cells : ℕ
most_model_cells = 2 ^ 62

-- the numbers of a cube's dimensions, in the order in which its cells name elements of them
abbrev pub dims_of : Layout → ℕ → List ℕ
dims_of layout cube = slice_index_or (map (λ shape. shape.dims) layout.cubes) cube []

-- the dimensions of these numbers
abbrev pub axes_of : List Outline → List ℕ → List Outline
axes_of dimensions dims = filter_map (slice_get dimensions) dims

-- the dimensions of a cube
abbrev pub axes : Layout → ℕ → List Outline
axes layout cube = axes_of layout.dimensions (dims_of layout cube)

-- how many elements each of these dimensions has
abbrev pub sizes_of : List Outline → List ℕ
sizes_of dimensions = map (λ dimension. length dimension.elements) dimensions

-- how many elements each dimension of a cube has
abbrev pub sizes : Layout → ℕ → List ℕ
sizes layout cube = sizes_of (axes layout cube)

-- the names of the dimensions, and those of the cubes
abbrev pub dimension_names : Layout → List (List ℕ)
dimension_names layout = map (λ dimension. dimension.name) layout.dimensions

abbrev pub cube_names : Layout → List (List ℕ)
cube_names layout = map (λ shape. shape.name) layout.cubes

-- the numbers of dimensions are in range and differ within a cube, and no two dimensions and no two cubes have the same
-- name
pub record IsLayout (layout : Layout) : Type 0 where
  pub few_dimensions : length layout.dimensions < 2 ^ 32
  pub few_cubes : length layout.cubes < 2 ^ 32
  pub in_range : All (λ shape. All (λ dim. dim < length layout.dimensions) shape.dims) layout.cubes
  pub different : All (λ shape. IsDistinct nat_eq shape.dims) layout.cubes
  pub distinct_dimensions : IsDistinct is_same_name (dimension_names layout)
  pub distinct_cubes : IsDistinct is_same_name (cube_names layout)
