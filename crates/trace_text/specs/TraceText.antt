-- The text of a trace: fields with a tab between each two, names in quotes as the model defines them.
use Rattle.std.specs.Prelude.{ℕ, suc, if◌then◌else◌, List, [], ◌∷◌, ◌++◌, map, length, codes, decimal, slice_index_or}
use Rattle.std.specs.Fmt.{signed_decimal}
use Rattle.std.specs.List.{flat_map, join_with_byte}
use Rattle.cube_fixed.specs.declared.value.Value.{Value}
use Rattle.cube_fixed.specs.Text.{printed}
use Rattle.cube_space.specs.Cells.{cube_of, is_leaf_cell}
use Rattle.cube_space.specs.Layout.{Layout}
use Rattle.dim_name.specs.Bytes.{newline, tab}
use Rattle.cell_names.specs.CellNames.{cube_name, dimension_name, element_names, one_line}
use Rattle.cell_store.specs.declared.entry.Entry.{Entry}
use Rattle.rule_model.specs.BoundModel.{BoundModel}
use Rattle.cell_trace.specs.Trace.{scene_of, trace_lines}
use Rattle.cell_trace.specs.declared.line.Line.{Line}
use Rattle.cell_trace.specs.declared.line.Line.TheVariants as lines

-- fields with a tab between each two
abbrev pub joined : List (List ℕ) → List ℕ
joined fields = join_with_byte tab fields

-- the fields of a line of the trace of a cell, where these are the names of the rule files, one of each cube
abbrev pub fields_of : Layout → List (List ℕ) → ℕ → Line → List (List ℕ)
fields_of space files cell (lines.Rule number) =
    codes "rule" ∷ one_line (slice_index_or files (cube_of space cell) []) ∷ codes "statement" ∷ decimal number
    ∷ (if is_leaf_cell space cell then codes "N" else codes "C") ∷ []
fields_of space files cell (lines.Reads number x value) =
    codes "reads" ∷ decimal number ∷ cube_name space x ∷ element_names space x ∷ printed value ∷ []
fields_of space files cell (lines.ReadsNothing number) =
    codes "reads" ∷ decimal number ∷ codes "nothing" ∷ codes "0" ∷ []
fields_of space files cell (lines.Children dim) = codes "children" ∷ dimension_name space cell dim ∷ []
fields_of space files cell (lines.Input stored) =
    codes "input" ∷ (if stored then codes "stored" else codes "empty") ∷ []
fields_of space files cell lines.Sum = codes "sum" ∷ []
fields_of space files cell (lines.Part part) =
    codes "part" ∷ cube_name space part.cell ∷ element_names space part.cell ∷ signed_decimal part.weight
    ∷ printed part.value ∷ []
fields_of space files cell (lines.More count) = codes "more" ∷ decimal count ∷ []

-- the fields of the first line: the cell with its value
abbrev pub head_fields : Layout → ℕ → Value → List (List ℕ)
head_fields space cell value =
    codes "value" ∷ cube_name space cell ∷ element_names space cell ∷ printed value ∷ []

-- `trace N`, and the N lines, each behind a line end
abbrev pub trace_text : Layout → List (List ℕ) → ℕ → Value → List Line → List ℕ
trace_text space files cell value trace =
    codes "trace " ++ decimal (suc (length trace))
    ++ flat_map (λ fields. newline ∷ joined fields)
    (head_fields space cell value ∷ map (fields_of space files cell) trace)

-- the reply to a TRACE of a cell of a model, where this is stored
unfoldable pub reply_text : BoundModel → List Entry → List (List ℕ) → ℕ → List ℕ
reply_text model stored files cell =
    let s = scene_of model stored cell in trace_text model.space files cell (s.values cell) (trace_lines s)
