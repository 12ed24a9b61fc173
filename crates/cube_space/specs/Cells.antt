-- The cells of a space and their numbers.
use Rattle.std.specs.Prelude.{ℕ, zero, suc, ◌+◌, ◌<◌, ◌≤◌, ◌==◌, Bool, ◌&&◌, nat_lt, Option, Some, None, List, []}
use Rattle.std.specs.Prelude.{map, length, All, slice_index_or, if◌then◌else◌}
use Rattle.std.specs.List.{flat_map, range_with_len, list_all, zip}
use Rattle.dim_core.specs.Outline.{Outline, IsDimension, components_of}
use Rattle.cube_space.specs.Radix.{product, are_digits, all_digits, number_of}
use Rattle.cube_space.specs.Layout.{Layout, IsLayout, axes, sizes, fewest_dimensions, most_dimensions, most_model_cells}

-- a cell as a planner names it: its cube, and one element of each dimension of the cube
pub record Cell : Type 0 where
  pub cube : ℕ
  pub elements : List ℕ

-- the cells of a cube, in the order in which the last dimension runs fastest
abbrev pub cells_of : Layout → ℕ → List Cell
cells_of layout cube = map (λ elements. record { cube = cube; elements = elements }) (all_digits (sizes layout cube))

-- all cells, cube by cube: the number of a cell is its place in this list
unfoldable pub all_cells : Layout → List Cell
all_cells layout = flat_map (cells_of layout) (range_with_len 0 (length layout.cubes))

-- the cell of a number
unfoldable pub cell_at : Layout → ℕ → Cell
cell_at layout number = slice_index_or (all_cells layout) number (record { cube = 0; elements = [] })

-- the cube of a cell
abbrev pub cube_of : Layout → ℕ → ℕ
cube_of layout cell = (cell_at layout cell).cube

-- the elements that a cell names, in the order of its cube's dimensions
abbrev pub elements_of : Layout → ℕ → List ℕ
elements_of layout cell = (cell_at layout cell).elements

-- how many cells a cube has
abbrev pub cell_count : Layout → ℕ → ℕ
cell_count layout cube = product (sizes layout cube)

-- the number of a cube's first cell, which comes after all cells of the cubes before
unfoldable pub first_cell : Layout → ℕ → ℕ
first_cell layout zero = 0
first_cell layout (suc cube) = first_cell layout cube + cell_count layout cube

-- how many cells there are
abbrev pub size_of : Layout → ℕ
size_of layout = first_cell layout (length layout.cubes)

-- a number that is a cell's
abbrev pub IsCell : Layout → ℕ → Type 0
IsCell layout cell = cell < size_of layout

-- whether there is such a cube, and these are one element of each of its dimensions
abbrev pub is_place : Layout → ℕ → List ℕ → Bool
is_place layout cube elements = nat_lt cube (length layout.cubes) && are_digits (sizes layout cube) elements

-- the number of the cell of this cube and these elements, or None where there is no such cell
unfoldable pub cell_number : Layout → ℕ → List ℕ → Option ℕ
cell_number layout cube elements = if is_place layout cube elements
    then Some (first_cell layout cube + number_of (sizes layout cube) elements) else None

-- whether an element is a leaf, which has no components
abbrev pub is_leaf : Outline → ℕ → Bool
is_leaf dimension element = length (components_of dimension element) == 0

-- whether each of these elements, one of each of these dimensions, is a leaf
abbrev pub are_leaves : List Outline → List ℕ → Bool
are_leaves dimensions elements = list_all (λ p. is_leaf p.0 p.1) (zip dimensions elements)

-- whether a cell is a leaf cell: all its elements are leaves
unfoldable pub is_leaf_cell : Layout → ℕ → Bool
is_leaf_cell layout cell = are_leaves (axes layout (cube_of layout cell)) (elements_of layout cell)

-- what holds of every space
pub record IsSpace (space : Layout) : Type 0 where
  pub layout : IsLayout space
  pub dimensions : All IsDimension space.dimensions
  pub counts : All
      (λ shape. (fewest_dimensions ≤ length shape.dims) × (length shape.dims ≤ most_dimensions)) space.cubes
  pub size : size_of space ≤ most_model_cells
