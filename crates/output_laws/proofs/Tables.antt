-- A table ends where its counts say.
use Rattle.std.proofs.Common.{◌≡◌, ℕ, ◌+◌, ◌*◌, ◌^◌, ◌<◌, ◌≤◌, zero, suc, Bool, true, false, if◌then◌else◌, List, [], ◌∷◌, ◌++◌, length, map, filter, replicate, codes, decimal, get_or, refl, sym, ap, ◌∙◌, arith, append_assoc, length-append}
use Rattle.std.specs.List.{enumerate_from, list_all, zip, slice_index_or}
use Rattle.std.proofs.lemmas.Bool.{and_parts}
use Rattle.std.proofs.lemmas.Fmt.{decimal_injective}
use Rattle.std.proofs.lemmas.List.{append_cancel_left, length-map}
use Rattle.std.proofs.lemmas.List.FromFn.{length-enumerate_from}
use Rattle.cube_fixed.specs.declared.value.Value.{Value}
use Rattle.cube_fixed.specs.Text.{printed}
use Rattle.dim_name.specs.Bytes.{newline, space}
use Rattle.cube_space.specs.Layout.{Layout}
use Rattle.cube_space.specs.Cells.{IsSpace}
use Rattle.view_query.specs.declared.shape.Axis.{Axis}
use Rattle.view_query.specs.declared.shape.View.{View}
use Rattle.view_query.specs.Views.{lines, cell_at, cell_count, most_view_cells}
use Rattle.view_query.specs.Table.{is_shown, shown_name, head_line, row_line, shown_rows, shown_columns, table_text}
use Rattle.output_laws.proofs.Lines.{lacks, split_at, first_line, many_lines, led, EndAlike}
use Rattle.cell_names.proofs.Plain.{lacks-append}
use Rattle.trace_text.proofs.Plain.{decimal_lacks, printed_plain, joined_plain}
use Rattle.output_laws.proofs.Names.{shown_plain}

-- ---- lists of plain texts

all-append : (a b : List (List ℕ)) → list_all (lacks newline) a ≡ true → list_all (lacks newline) b ≡ true → list_all (lacks newline) (a ++ b) ≡ true
all-append [] b la lb = lb
all-append (text ∷ a) b la lb =
    let parts = and_parts (lacks newline text) (list_all (lacks newline) a) la in
    let here = parts.0 in
    rw (here) (all-append a b parts.1 lb)

all-map : {A : Type 0} (f : A → List ℕ) → ((x : A) → lacks newline (f x) ≡ true) → (xs : List A) → list_all (lacks newline) (map f xs) ≡ true
all-map f plain [] = refl
all-map f plain (x ∷ xs) = let here = plain x in rw (here) (all-map f plain xs)

all-empty : (n : ℕ) → list_all (lacks newline) (replicate n []) ≡ true
all-empty zero = refl
all-empty (suc n) = all-empty n

-- ---- the lines of a table

module _ (layout : Layout) (is : IsSpace layout) (view : View) where
  head_plain : (columns : List (List ℕ)) (axis : ℕ × Axis) → lacks newline (head_line layout view columns axis) ≡ true
  head_plain columns (index, axis) =
      joined_plain (replicate (length view.rows) [] ++ map (λ column. shown_name layout view.cube axis (slice_index_or column index 0)) columns)
      (all-append (replicate (length view.rows) []) (map (λ column. shown_name layout view.cube axis (slice_index_or column index 0)) columns) (all-empty (length view.rows))
      (all-map (λ column. shown_name layout view.cube axis (slice_index_or column index 0)) (λ column. shown_plain layout is view.cube axis (slice_index_or column index 0)) columns))

  row_plain : (row : List ℕ) (values : List Value) → lacks newline (row_line layout view row values) ≡ true
  row_plain row values =
      joined_plain (map (λ pair. shown_name layout view.cube pair.0 pair.1) (zip view.rows row) ++ map printed values)
      (all-append (map (λ pair. shown_name layout view.cube pair.0 pair.1) (zip view.rows row)) (map printed values)
      (all-map (λ pair. shown_name layout view.cube pair.0 pair.1) (λ pair. shown_plain layout is view.cube pair.0 pair.1) (zip view.rows row))
      (all-map printed printed_plain values))

  lines_of : (List ℕ → List ℕ → Value) → List (List ℕ) → List (List ℕ) → List (List ℕ)
  lines_of value rows columns =
      map (head_line layout view columns) (enumerate_from 0 view.columns) ++ map (λ row. row_line layout view row (map (value row) columns)) rows

  lines_plain : (value : List ℕ → List ℕ → Value) (rows columns : List (List ℕ)) → list_all (lacks newline) (lines_of value rows columns) ≡ true
  unfolding lines_of
  lines_plain value rows columns =
      all-append (map (head_line layout view columns) (enumerate_from 0 view.columns)) (map (λ row. row_line layout view row (map (value row) columns)) rows)
      (all-map (head_line layout view columns) (head_plain columns) (enumerate_from 0 view.columns))
      (all-map (λ row. row_line layout view row (map (value row) columns)) (λ row. row_plain row (map (value row) columns)) rows)

  length-lines : (value : List ℕ → List ℕ → Value) (rows columns : List (List ℕ)) → length (lines_of value rows columns) ≡ length view.columns + length rows
  unfolding lines_of
  length-lines value rows columns =
      length-append (map (head_line layout view columns) (enumerate_from 0 view.columns)) (map (λ row. row_line layout view row (map (value row) columns)) rows)
      ∙ ap (λ n. n + length (map (λ row. row_line layout view row (map (value row) columns)) rows)) (length-map (enumerate_from 0 view.columns) (head_line layout view columns) ∙ length-enumerate_from 0 view.columns)
      ∙ ap (λ n. length view.columns + n) (length-map rows (λ row. row_line layout view row (map (value row) columns)))

-- ---- the first line

counts : ℕ → ℕ → List ℕ
counts rows columns = codes "table " ++ decimal rows ++ codes " " ++ decimal columns

counts_plain : (rows columns : ℕ) → lacks newline (counts rows columns) ≡ true
unfolding counts
counts_plain rows columns =
    lacks-append newline (codes "table " ++ decimal rows ++ codes " ") (decimal columns)
    (lacks-append newline (codes "table " ++ decimal rows) (codes " ")
    (lacks-append newline (codes "table ") (decimal rows) refl (decimal_lacks newline rows (omega arith))) refl)
    (decimal_lacks newline columns (omega arith))

counts_parts : (rows columns : ℕ) → counts rows columns ≡ codes "table " ++ (decimal rows ++ space ∷ decimal columns)
unfolding counts
counts_parts rows columns = simp append_assoc

counts_tell : (r s c d : ℕ) → counts r c ≡ counts s d → decimal r ≡ decimal s
counts_tell r s c d e =
    let whole = sym (counts_parts r c) ∙ e ∙ counts_parts s d in
    let behind = append_cancel_left (codes "table ") (decimal r ++ space ∷ decimal c) (decimal s ++ space ∷ decimal d) whole in
    (split_at space (decimal r) (decimal s) (decimal c) (decimal d) (decimal_lacks space r (omega arith)) (decimal_lacks space s (omega arith)) behind).0

-- tables whose lines are as many as the first line says end alike
counted_end : (r s c d : ℕ) (ls ms : List (List ℕ)) → (decimal r ≡ decimal s → length ls ≡ length ms)
    → list_all (lacks newline) ls ≡ true → list_all (lacks newline) ms ≡ true → EndAlike (counts r c ++ led ls) (counts s d ++ led ms)
counted_end r s c d ls ms as_many la lb x y e =
    let whole = sym (append_assoc (counts r c) (led ls) (newline ∷ x)) ∙ e ∙ append_assoc (counts s d) (led ms) (newline ∷ y) in
    let first = first_line (counts r c) (counts s d) ls ms x y (counts_plain r c) (counts_plain s d) whole in
    let rest = many_lines ls ms x y (as_many (counts_tell r s c d first.0)) la lb first.1 in
    (ap (λ l. l ++ led ls) first.0 ∙ ap (λ l. counts s d ++ l) rest.0, rest.1)

-- ---- the count of rows

filter_le : {A : Type 0} (p : A → Bool) (xs : List A) → length (filter p xs) ≤ length xs
filter_le p [] = omega arith
filter_le p (x ∷ xs) = by (p x) (filter_le p xs)
  where
    by : (b : Bool) → length (filter p xs) ≤ length xs → length (if b then x ∷ filter p xs else filter p xs) ≤ suc (length xs)
    by true less = omega arith
    by false less = omega arith

at_least_one : (n k : ℕ) → n * suc k ≤ most_view_cells → n < 2 ^ 64
at_least_one n k few = grind arith

-- the rows that are shown are so few that their count tells them; or they are as many, whatever the values are
same_count : (nozeros : Bool) (rows columns : List (List ℕ)) (f g : List ℕ → List ℕ → Value) → length rows * length columns ≤ most_view_cells
    → decimal (length (filter (λ row. is_shown nozeros (map (f row) columns)) rows)) ≡ decimal (length (filter (λ row. is_shown nozeros (map (g row) columns)) rows))
    → length (filter (λ row. is_shown nozeros (map (f row) columns)) rows) ≡ length (filter (λ row. is_shown nozeros (map (g row) columns)) rows)
same_count false rows columns f g few e = refl
same_count true rows [] f g few e = refl
same_count true rows (column ∷ columns) f g few e =
    let low = at_least_one (length rows) (length columns) few in
    let less = filter_le (λ row. is_shown true (map (f row) (column ∷ columns))) rows in
    let less_too = filter_le (λ row. is_shown true (map (g row) (column ∷ columns))) rows in
    decimal_injective (length (filter (λ row. is_shown true (map (f row) (column ∷ columns))) rows)) (length (filter (λ row. is_shown true (map (g row) (column ∷ columns))) rows)) (omega arith) (omega arith) e

-- the tables of one view end alike, whatever the values are
pub tables_end : (layout : Layout) → IsSpace layout → (view : View) → cell_count view.rows view.columns ≤ most_view_cells
    → (f g : ℕ → Value) → EndAlike (table_text layout view f) (table_text layout view g)
unfolding table_text counts lines_of
tables_end layout is view few f g =
    let at = λ (value : ℕ → Value) (row column : List ℕ). value (cell_at layout view row column) in
    let rows = shown_rows view (at f) in
    let rows_too = shown_rows view (at g) in
    let columns = shown_columns view (at f) in
    let columns_too = shown_columns view (at g) in
    counted_end (length rows) (length rows_too) (length columns) (length columns_too) (lines_of layout is view (at f) rows columns) (lines_of layout is view (at g) rows_too columns_too)
    (λ same. length-lines layout is view (at f) rows columns ∙ ap (λ n. length view.columns + n) (same_count view.nozeros (lines view.rows) (lines view.columns) (at f) (at g) few same)
    ∙ sym (length-lines layout is view (at g) rows_too columns_too))
    (lines_plain layout is view (at f) rows columns) (lines_plain layout is view (at g) rows_too columns_too)

-- no table begins as a refusal does: a table begins with a `t`, and a refusal with an `r`
pub table_apart : (layout : Layout) (view : View) (f : ℕ → Value) (reason : List ℕ) → EndAlike (table_text layout view f) (codes "refused " ++ reason)
unfolding table_text
table_apart layout view f reason x y e =
    let first_byte : 116 ≡ 114 = ap (λ (text : List ℕ). get_or text 0 0) e in
    absurd (omega (arith, first_byte))
