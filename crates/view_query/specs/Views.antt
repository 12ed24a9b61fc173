-- What a view shows: its rows and columns, and the cell of each row and column.
use Rattle.std.specs.Prelude.{◌≡◌, ℕ, ◌+◌, ◌*◌, ◌<◌, ◌≤◌, ◌==◌, List, [], ◌∷◌, map, length, All}
use Rattle.std.specs.Prelude.{count_by, find, slice_get}
use Rattle.std.specs.Prelude.{Option, Some, option_map, unwrap_or}
use Rattle.std.specs.Option.{option_or}
use Rattle.std.specs.List.{flat_map, range_with_len, zip}
use Rattle.dim_core.specs.Outline.{Outline}
use Rattle.cube_space.specs.Layout.{Layout, axes}
use Rattle.cube_space.specs.Cells.{cell_number}
use Rattle.view_query.specs.declared.shape.Axis.{Axis}
use Rattle.view_query.specs.declared.shape.View.{View}

-- all lists of one element of each of these sets, in the order in which the last set runs fastest
abbrev pub combinations : List (List ℕ) → List (List ℕ)
combinations [] = [] ∷ []
combinations (set ∷ sets) =
    flat_map (λ element. map (λ elements. element ∷ elements) (combinations sets)) set

-- the lines along axes, which are rows or columns: each has one element of each axis
abbrev pub lines : List Axis → List (List ℕ)
lines axes = combinations (map (λ axis. axis.elements) axes)

-- the most cells of a view
abbrev pub most_view_cells : ℕ
most_view_cells = 250000

abbrev pub cell_count : List Axis → List Axis → ℕ
cell_count rows columns = length (lines rows) * length (lines columns)

-- ---- the cell of a row and a column

-- the element that a line has at a place of the cube
abbrev pub element_in : List Axis → List ℕ → ℕ → Option ℕ
element_in axes line place = option_map (λ pair. pair.1) (find (λ pair. pair.0.place == place) (zip axes line))

-- the element at which a point stands there
abbrev pub point_at : List (ℕ × ℕ) → ℕ → Option ℕ
point_at points place = option_map (λ point. point.1) (find (λ point. point.0 == place) points)

-- the element that the cell has there: that of the row, of the column or of the points
abbrev pub element_at : View → List ℕ → List ℕ → ℕ → ℕ
element_at view row column place =
    unwrap_or (option_or (element_in view.rows row place)
    (option_or (element_in view.columns column place) (point_at view.points place))) 0

abbrev pub elements_at : Layout → View → List ℕ → List ℕ → List ℕ
elements_at space view row column =
    map (element_at view row column) (range_with_len 0 (length (axes space view.cube)))

unfoldable pub cell_at : Layout → View → List ℕ → List ℕ → ℕ
cell_at space view row column = unwrap_or (cell_number space view.cube (elements_at space view row column)) 0

-- the cells of the table, row by row
abbrev pub table_cells : Layout → View → List ℕ
table_cells space view =
    flat_map (λ row. map (cell_at space view row) (lines view.columns)) (lines view.rows)

-- ---- what holds of every view

-- how often a dimension stands at these places of rows, columns and points
abbrev pub times_at : List ℕ → List ℕ → List ℕ → ℕ → ℕ
times_at rows columns points place =
    count_by (λ other. other == place) rows + count_by (λ other. other == place) columns
    + count_by (λ other. other == place) points

-- an axis has elements of the dimension at its place, and a point one
abbrev pub IsAxis : List Outline → Axis → Type 0
IsAxis dimensions axis =
    (dimension : Outline) × (slice_get dimensions axis.place ≡ Some dimension)
    × All (λ element. element < length dimension.elements) axis.elements

abbrev pub IsPoint : List Outline → ℕ × ℕ → Type 0
IsPoint dimensions point =
    (dimension : Outline) × (slice_get dimensions point.0 ≡ Some dimension)
    × (point.1 < length dimension.elements)

-- a view of a space: each dimension of its cube stands in just one of rows, columns and points, all elements are there,
-- and there aren't too many cells
pub record IsView (space : Layout) (view : View) : Type 0 where
  pub cube : view.cube < length space.cubes
  pub rows : All (IsAxis (axes space view.cube)) view.rows
  pub columns : All (IsAxis (axes space view.cube)) view.columns
  pub points : All (IsPoint (axes space view.cube)) view.points
  pub once : (place : ℕ) → place < length (axes space view.cube) → times_at (map (λ axis. axis.place) view.rows)
      (map (λ axis. axis.place) view.columns) (map (λ point. point.0) view.points) place ≡ 1
  pub few : cell_count view.rows view.columns ≤ most_view_cells
