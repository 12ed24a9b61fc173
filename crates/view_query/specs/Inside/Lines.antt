-- Lines of elements that are there, and which are shown.
use Rattle.std.specs.Prelude.{◌≡◌, ℕ, ◌<◌, ◌==◌, ◌&&◌, ◌||◌, Bool, false, not, List, length, Some, slice_get}
use Rattle.std.specs.List.{AllZip, list_any}
use Rattle.std.specs.Option.{option_map_or}
use Rattle.cube_fixed.specs.declared.value.Value.{Value}
use Rattle.cube_fixed.specs.Arithmetic.{is_zero}
use Rattle.dim_core.specs.Outline.{Outline}
use Rattle.view_query.specs.declared.shape.Axis.{Axis}
use Rattle.view_query.specs.declared.shape.View.{View}

-- an element of the dimension at an axis's place
abbrev pub IsElementOf : List Outline → Axis → ℕ → Type 0
IsElementOf dimensions axis element =
    (dimension : Outline) × (slice_get dimensions axis.place ≡ Some dimension) × (element < length dimension.elements)

-- one element of each of these axes
abbrev pub IsLine : List Outline → List Axis → List ℕ → Type 0
IsLine dimensions axes line = AllZip (IsElementOf dimensions) axes line

-- whether a row has a value other than 0 in the column at an index
abbrev pub is_other_at : ℕ → List Value → Bool
is_other_at column values = option_map_or (λ value. not (is_zero value)) (slice_get values column) false

-- whether an axis has no element, so that there is no line along these
abbrev pub has_empty : List Axis → Bool
has_empty axes = list_any (λ axis. length axis.elements == 0) axes

-- whether a view has no cell, and zeros are left out
abbrev pub shows_nothing : View → Bool
shows_nothing view = view.nozeros && (has_empty view.rows || has_empty view.columns)
