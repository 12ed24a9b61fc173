-- What the text of a view is in a space, or why it is none.
use Rattle.std.specs.Prelude.{ℕ, ◌-◌, ◌^◌, ◌==◌, nat_lt, min, Bool, List, length, slice_get}
use Rattle.std.specs.Prelude.{Option, Some, None, Err, if◌then◌else◌}
use Rattle.std.specs.List.{list_all, range_with_len}
use Rattle.dim_name.specs.Name.{place_of}
use Rattle.dim_core.specs.Outline.{Outline, index_of}
use Rattle.cube_space.specs.Layout.{Layout, axes, cube_names}
use Rattle.cube_space.specs.Axes.{axis_called}
use Rattle.user_text.specs.declared.command.SetText.{SetText}
use Rattle.user_text.specs.declared.command.ViewText.{ViewText}
use Rattle.view_query.specs.declared.fault.ViewFault.TheVariants.{WrongCount, ViewLimit}
use Rattle.view_query.specs.declared.shape.Axis.{Axis}
use Rattle.view_query.specs.declared.shape.View.{View}
use Rattle.view_query.specs.Meaning.{Meaning, done, ◌>>=◌, known, each}
use Rattle.view_query.specs.Views.{cell_count, most_view_cells, times_at}

-- the place, among the dimensions of a cube, of the one that has this name
abbrev pub place_named : List Outline → List ℕ → Meaning ℕ
place_named dimensions name = known (axis_called dimensions name)

-- whether each of so many dimensions stands at just one of these places of rows, columns and points
abbrev pub is_each_once : ℕ → List ℕ → List ℕ → List ℕ → Bool
is_each_once count rows columns points =
    list_all (λ place. times_at rows columns points place == 1) (range_with_len 0 count)

-- the elements of a set: those that it lists, in their order, or all
abbrev pub elements_of_set : Outline → Option (List (List ℕ)) → Meaning (List ℕ)
elements_of_set dimension None = done (range_with_len 0 (length dimension.elements))
elements_of_set dimension (Some names) = each (λ name. known (index_of dimension name)) names

abbrev pub bound_set : List Outline → SetText → Meaning Axis
bound_set dimensions set = do
  place ← place_named dimensions set.dim
  dimension ← known (slice_get dimensions place)
  elements ← elements_of_set dimension set.elements
  done (record { place = place; elements = elements })

abbrev pub bound_point : List Outline → List ℕ × List ℕ → Meaning (ℕ × ℕ)
bound_point dimensions point = do
  place ← place_named dimensions point.0
  dimension ← known (slice_get dimensions place)
  element ← known (index_of dimension point.1)
  done (place, element)

-- the last value of a count in 64 bits: a count that would be larger stays there
abbrev pub last_count : ℕ
last_count = 2 ^ 64 - 1

-- a view, unless it has too many cells
abbrev pub within_limit : View → Meaning View
within_limit view =
    if nat_lt most_view_cells (cell_count view.rows view.columns)
    then Err (ViewLimit (min (cell_count view.rows view.columns) last_count)) else done view

-- the same where each dimension of the cube stands in just one of rows, columns and points
abbrev pub with_elements : List Outline → ℕ → ViewText → Meaning View
with_elements dimensions cube text = do
  rows ← each (bound_set dimensions) text.rows
  columns ← each (bound_set dimensions) text.columns
  points ← each (bound_point dimensions) text.points
  within_limit (record { cube = cube; rows = rows; columns = columns; points = points; nozeros = text.nozeros })

-- whether each dimension of the cube stands in just one of them, where each that is named is one of the cube's
abbrev pub is_counted : List Outline → ViewText → Meaning Bool
is_counted dimensions text = do
  rows ← each (λ set. place_named dimensions set.dim) text.rows
  columns ← each (λ set. place_named dimensions set.dim) text.columns
  points ← each (λ point. place_named dimensions point.0) text.points
  done (is_each_once (length dimensions) rows columns points)

abbrev pub if_counted : List Outline → ℕ → ViewText → Bool → Meaning View
if_counted dimensions cube text counted = if counted then with_elements dimensions cube text else Err WrongCount

-- the view that a text means in a cube with these dimensions
abbrev pub bound_in : List Outline → ℕ → ViewText → Meaning View
bound_in dimensions cube text = do
  counted ← is_counted dimensions text
  if_counted dimensions cube text counted

-- the view that a text means
unfoldable pub bound : Layout → ViewText → Meaning View
bound space text = do
  cube ← known (place_of (cube_names space) text.cube)
  bound_in (axes space cube) cube text
