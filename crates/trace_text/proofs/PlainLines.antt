-- The lines of a trace are lines, where no name has a line end.
use Rattle.std.proofs.Common.{◌≡◌, ◌∙◌, ℕ, suc, Bool, true, false, ◌==◌, if◌then◌else◌, List, [], ◌∷◌, ◌++◌, map, length, get_or, codes, decimal, refl, ap, sym, arith}
use Rattle.std.specs.Fmt.{signed_decimal}
use Rattle.std.specs.List.{list_all, flat_map, slice_split}
use Rattle.std.proofs.lemmas.Bool.{and_from}
use Rattle.std.proofs.lemmas.List.{length-map}
use Rattle.cell_names.specs.CellNames.{cube_name, dimension_name, element_names, one_line}
use Rattle.cell_names.proofs.Plain.{cube_plain, dimension_plain, elements_plain, lacks, lacks-append, one_line_plain}
use Rattle.cell_store.specs.declared.entry.Entry.{Entry}
use Rattle.cube_fixed.specs.declared.value.Value.{Value}
use Rattle.cube_fixed.specs.Text.{printed}
use Rattle.cube_space.specs.Cells.{cube_of, is_leaf_cell}
use Rattle.cube_space.specs.Layout.{Layout}
use Rattle.dim_name.specs.Bytes.{newline}
use Rattle.rule_model.specs.BoundModel.{BoundModel}
use Rattle.cell_trace.specs.declared.line.Line.{Line}
use Rattle.cell_trace.specs.declared.line.Line.TheVariants as lines
use Rattle.trace_text.specs.TextLaws.{HasTheLinesItSays}
use Rattle.cell_trace.specs.Trace.{scene_of, trace_lines}
use Rattle.trace_text.specs.TraceText.{fields_of, head_fields, joined, reply_text, trace_text}
use Rattle.trace_text.proofs.Plain.{cut_lines, decimal_lacks, joined_plain, led, printed_plain, signed_plain}

-- ---- lines

-- the lines of a trace of a cell of this value
abbrev pub lines_with : Layout → List (List ℕ) → ℕ → Value → List Line → List (List ℕ)
lines_with space files cell value trace = joined (head_fields space cell value) ∷ map joined (map (fields_of space files cell) trace)

abbrev pub AllPlain : List (List ℕ) → Type 0
AllPlain fields = list_all (lacks newline) fields ≡ true

onto : (field : List ℕ) (fields : List (List ℕ)) → lacks newline field ≡ true → AllPlain fields → AllPlain (field ∷ fields)
onto field fields = and_from (lacks newline field) (list_all (lacks newline) fields)

number_plain : (n : ℕ) → lacks newline (decimal n) ≡ true
number_plain n = decimal_lacks newline n (omega arith)

one_of : (b : Bool) (x y : List ℕ) → lacks newline x ≡ true → lacks newline y ≡ true → lacks newline (if b then x else y) ≡ true
one_of true x y p q = p
one_of false x y p q = q

module _ (space : Layout) where
  of_cell : (cell : ℕ) (fields : List (List ℕ)) → AllPlain fields → AllPlain (cube_name space cell ∷ element_names space cell ∷ fields)
  of_cell cell fields rest =
      onto (cube_name space cell) (element_names space cell ∷ fields) (cube_plain space cell) (onto (element_names space cell) fields (elements_plain space cell) rest)

  of_value : (value : Value) → AllPlain (printed value ∷ [])
  of_value value = onto (printed value) [] (printed_plain value) refl

  head_plain : (cell : ℕ) (value : Value) → AllPlain (head_fields space cell value)
  head_plain cell value = onto (codes "value") (cube_name space cell ∷ element_names space cell ∷ printed value ∷ []) refl (of_cell cell (printed value ∷ []) (of_value value))

  module _ (files : List (List ℕ)) (cell : ℕ) where
    fields_plain : (line : Line) → AllPlain (fields_of space files cell line)
    fields_plain (lines.Rule number) =
        let mark = if is_leaf_cell space cell then codes "N" else codes "C" in
        let file = one_line (get_or files (cube_of space cell) []) in
        onto (codes "rule") (file ∷ codes "statement" ∷ decimal number ∷ mark ∷ []) refl
        (onto file (codes "statement" ∷ decimal number ∷ mark ∷ []) (one_line_plain (get_or files (cube_of space cell) []))
        (onto (codes "statement") (decimal number ∷ mark ∷ []) refl
        (onto (decimal number) (mark ∷ []) (number_plain number) (onto mark [] (one_of (is_leaf_cell space cell) (codes "N") (codes "C") refl refl) refl))))
    fields_plain (lines.Reads number x value) =
        onto (codes "reads") (decimal number ∷ cube_name space x ∷ element_names space x ∷ printed value ∷ []) refl
        (onto (decimal number) (cube_name space x ∷ element_names space x ∷ printed value ∷ []) (number_plain number) (of_cell x (printed value ∷ []) (of_value value)))
    fields_plain (lines.ReadsNothing number) =
        onto (codes "reads") (decimal number ∷ codes "nothing" ∷ codes "0" ∷ []) refl (onto (decimal number) (codes "nothing" ∷ codes "0" ∷ []) (number_plain number) refl)
    fields_plain (lines.Children dim) =
        onto (codes "children") (dimension_name space cell dim ∷ []) refl (onto (dimension_name space cell dim) [] (dimension_plain space cell dim) refl)
    fields_plain (lines.Input stored) =
        let kind = if stored then codes "stored" else codes "empty" in
        onto (codes "input") (kind ∷ []) refl (onto kind [] (one_of stored (codes "stored") (codes "empty") refl refl) refl)
    fields_plain lines.Sum = refl
    fields_plain (lines.Part part) =
        let value = printed part.value ∷ [] in
        onto (codes "part") (cube_name space part.cell ∷ element_names space part.cell ∷ signed_decimal part.weight ∷ value) refl
        (of_cell part.cell (signed_decimal part.weight ∷ value) (onto (signed_decimal part.weight) value (signed_plain part.weight) (of_value part.value)))
    fields_plain (lines.More count) = onto (codes "more") (decimal count ∷ []) refl (onto (decimal count) [] (number_plain count) refl)

    each_plain : (trace : List Line) → AllPlain (map joined (map (fields_of space files cell) trace))
    each_plain [] = refl
    each_plain (line ∷ trace) =
        onto (joined (fields_of space files cell line)) (map joined (map (fields_of space files cell) trace)) (joined_plain (fields_of space files cell line) (fields_plain line)) (each_plain trace)

    pub lines_plain : (value : Value) (trace : List Line) → AllPlain (lines_with space files cell value trace)
    lines_plain value trace =
        onto (joined (head_fields space cell value)) (map joined (map (fields_of space files cell) trace)) (joined_plain (head_fields space cell value) (head_plain cell value)) (each_plain trace)

-- ---- the text

led_joined : (fields : List (List (List ℕ))) → flat_map (λ l. newline ∷ joined l) fields ≡ led (map joined fields)
led_joined [] = refl
led_joined (l ∷ fields) = ap (λ more. newline ∷ (joined l ++ more)) (led_joined fields)

module _ (space : Layout) (files : List (List ℕ)) (cell : ℕ) (value : Value) (trace : List Line) where
  abbrev own_lines : List (List ℕ)
  own_lines = lines_with space files cell value trace

  lines_count : length own_lines ≡ suc (length trace)
  lines_count = ap suc (length-map (map (fields_of space files cell) trace) joined ∙ length-map trace (fields_of space files cell))

  -- the text is `trace N`, and N lines, each behind a line end
  text_is_lines : trace_text space files cell value trace ≡ (codes "trace " ++ decimal (length own_lines)) ++ led own_lines
  text_is_lines =
      ap (λ l. (codes "trace " ++ decimal (suc (length trace))) ++ l) (led_joined (head_fields space cell value ∷ map (fields_of space files cell) trace))
      ∙ ap (λ n. (codes "trace " ++ decimal n) ++ led own_lines) (sym lines_count)

  counted : HasTheLinesItSays (trace_text space files cell value trace)
  counted = record {
    lines = own_lines;
    between = ap (slice_split (λ byte. byte == newline)) text_is_lines
        ∙ cut_lines (codes "trace " ++ decimal (length own_lines)) own_lines
        (lacks-append newline (codes "trace ") (decimal (length own_lines)) refl (number_plain (length own_lines)))
        (lines_plain space files cell value trace);
  }

pub reply_counted : (model : BoundModel) (stored : List Entry) (files : List (List ℕ)) (cell : ℕ) → HasTheLinesItSays (reply_text model stored files cell)
unfolding reply_text
reply_counted model stored files cell =
    let s = scene_of model stored cell in
    counted model.space files cell (s.values cell) (trace_lines s)

pub reply_count : (model : BoundModel) (stored : List Entry) (files : List (List ℕ)) (cell : ℕ)
    → length (reply_counted model stored files cell).lines ≡ suc (length (trace_lines (scene_of model stored cell)))
unfolding reply_counted counted
reply_count model stored files cell =
    let s = scene_of model stored cell in
    lines_count model.space files cell (s.values cell) (trace_lines s)
