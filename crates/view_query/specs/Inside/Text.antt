-- Texts as they are written, field by field.
use Rattle.std.specs.Prelude.{ℕ, Bool, List, [], ◌∷◌, ◌++◌, map, slice_index_or, if◌then◌else◌}
use Rattle.std.specs.List.{enumerate_from, flat_map, items_where_true, zip}
use Rattle.cube_fixed.specs.declared.value.Value.{Value}
use Rattle.dim_name.specs.Bytes.{newline, tab}
use Rattle.cube_space.specs.Layout.{Layout}
use Rattle.view_query.specs.declared.shape.Axis.{Axis}
use Rattle.view_query.specs.declared.shape.View.{View}
use Rattle.view_query.specs.Table.{shown_name, head_line, row_line}

-- fields, each with a tab behind it
abbrev pub tabbed : List (List ℕ) → List ℕ
tabbed fields = flat_map (λ field. field ++ tab ∷ []) fields

-- a field with its tab, if it's to be shown
abbrev pub tabbed_if : Bool → List ℕ → List ℕ
tabbed_if shown field = if shown then field ++ tab ∷ [] else []

-- the fields of the names of a line
abbrev pub names_along : Layout → ℕ → List Axis → List ℕ → List (List ℕ)
names_along space cube axes line = map (λ pair. shown_name space cube pair.0 pair.1) (zip axes line)

-- the fields of the elements of these lines at an index
abbrev pub names_across : Layout → ℕ → Axis → ℕ → List (List ℕ) → List (List ℕ)
names_across space cube axis index columns =
    map (λ column. shown_name space cube axis (slice_index_or column index 0)) columns

-- lines, each behind the end of the one before
abbrev pub led : List (List ℕ) → List ℕ
led lines = flat_map (λ line. newline ∷ line) lines

-- the head lines over the columns that are shown
abbrev pub heads : Layout → View → List (List ℕ) → List Bool → List ℕ
heads space view columns shown =
    led (map (head_line space view (items_where_true shown columns)) (enumerate_from 0 view.columns))

-- the lines of the rows that are shown, of the values in columns that are
abbrev pub row_lines : Layout → View → List (List ℕ) → List (List Value) → List Bool → List Bool → List ℕ
row_lines space view rows table shown_rows shown_columns =
    led (map (λ pair. row_line space view pair.0 (items_where_true shown_columns pair.1))
    (items_where_true shown_rows (zip rows table)))

-- the line of a row, if it's shown
abbrev pub line_if : Layout → View → List Bool → List ℕ → List Value → Bool → List ℕ
line_if space view columns row values shown =
    if shown then newline ∷ row_line space view row (items_where_true columns values) else []
