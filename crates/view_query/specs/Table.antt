-- The text of a view's table.
use Rattle.std.specs.Prelude.{ℕ, Bool, ◌||◌, not, List, [], ◌∷◌, ◌++◌, map, filter, length, replicate, codes, decimal}
use Rattle.std.specs.Prelude.{slice_get, slice_index_or}
use Rattle.std.specs.List.{enumerate_from, flat_map, join_with_byte, list_any, zip}
use Rattle.std.specs.Option.{option_map_or}
use Rattle.cube_fixed.specs.declared.value.Value.{Value}
use Rattle.cube_fixed.specs.Arithmetic.{is_zero}
use Rattle.cube_fixed.specs.Text.{printed}
use Rattle.dim_name.specs.Bytes.{newline, tab}
use Rattle.dim_core.specs.Outline.{name_of}
use Rattle.cube_space.specs.Layout.{Layout, axes}
use Rattle.view_query.specs.declared.shape.Axis.{Axis}
use Rattle.view_query.specs.declared.shape.View.{View}
use Rattle.view_query.specs.Views.{lines, cell_at}

-- whether a line of these values is shown: where zeros are left out, one of them isn't 0
abbrev pub is_shown : Bool → List Value → Bool
is_shown nozeros values = not nozeros || list_any (λ value. not (is_zero value)) values

-- the name of an element of an axis, as the model defines it
abbrev pub shown_name : Layout → ℕ → Axis → ℕ → List ℕ
shown_name space cube axis element =
    option_map_or (λ dimension. name_of dimension element) (slice_get (axes space cube) axis.place) []

-- fields with a tab between each two
abbrev pub joined : List (List ℕ) → List ℕ
joined fields = join_with_byte tab fields

-- the line of an axis of the columns, which is the one at this index: an empty field for each axis of the rows, and the
-- element of each column
abbrev pub head_line : Layout → View → List (List ℕ) → ℕ × Axis → List ℕ
head_line space view columns (index, axis) =
    joined (replicate (length view.rows) []
    ++ map (λ column. shown_name space view.cube axis (slice_index_or column index 0)) columns)

-- the line of a row: its elements, and its values
abbrev pub row_line : Layout → View → List ℕ → List Value → List ℕ
row_line space view row values =
    joined (map (λ pair. shown_name space view.cube pair.0 pair.1) (zip view.rows row) ++ map printed values)

-- the rows and the columns that are shown, by the values of all rows and columns
abbrev pub shown_rows : View → (List ℕ → List ℕ → Value) → List (List ℕ)
shown_rows view value =
    filter (λ row. is_shown view.nozeros (map (value row) (lines view.columns))) (lines view.rows)

abbrev pub shown_columns : View → (List ℕ → List ℕ → Value) → List (List ℕ)
shown_columns view value =
    filter (λ column. is_shown view.nozeros (map (λ row. value row column) (lines view.rows))) (lines view.columns)

-- the table of these rows and columns: `table R C`, the head lines, and the rows, with a line end between each two
abbrev pub table_lines : Layout → View → (List ℕ → List ℕ → Value) → List (List ℕ) → List (List ℕ) → List ℕ
table_lines space view value rows columns =
    codes "table " ++ decimal (length rows) ++ codes " " ++ decimal (length columns)
    ++ flat_map (λ line. newline ∷ line)
    (map (head_line space view columns) (enumerate_from 0 view.columns)
    ++ map (λ row. row_line space view row (map (value row) columns)) rows)

abbrev pub table_of : Layout → View → (List ℕ → List ℕ → Value) → List ℕ
table_of space view value = table_lines space view value (shown_rows view value) (shown_columns view value)

-- the table of a view, by the values of the cells
unfoldable pub table_text : Layout → View → (ℕ → Value) → List ℕ
table_text space view values = table_of space view (λ row column. values (cell_at space view row column))
