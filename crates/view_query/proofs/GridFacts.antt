-- The grid of a view is one of its lines, and is written as the table.
use Rattle.std.proofs.Common.{◌≡◌, ◌∙◌, ℕ, ◌||◌, not, List, [], ◌∷◌, ◌++◌, map, length, sym, ap, subst, All, count_by}
use Rattle.std.specs.List.{AllByRecursion, list_any}
use Rattle.std.proofs.lemmas.List.{length-map}
use Rattle.std.proofs.lemmas.List.FromFn.{length-map-range_with_len}
use Rattle.cube_fixed.specs.declared.value.Value.{Value}
use Rattle.cube_space.specs.Layout.{Layout, axes}
use Rattle.view_query.specs.declared.grid.Grid.{Grid}
use Rattle.view_query.specs.declared.shape.View.{View}
use Rattle.view_query.specs.Views.{IsView, lines, cell_at}
use Rattle.view_query.specs.Table.{is_shown, table_text}
use Rattle.view_query.specs.Inside.Lines.{IsLine, is_other_at}
use Rattle.view_query.specs.Inside.Tables.{IsTableOf}
use Rattle.view_query.specs.Inside.Grids.{IsGridOf}
use Rattle.view_query.specs.Inside.Text.{heads, row_lines}
use Rattle.view_query.proofs.LineFacts.{lines_are, from_each}
use Rattle.view_query.proofs.ShownFacts.{table_is, title_of}

rows_long : (value : List ℕ → List ℕ → Value) (columns : List (List ℕ)) (n : ℕ) → n ≡ length columns → (rows : List (List ℕ)) → AllByRecursion (λ values. n ≡ length values) (map (λ row. map (value row) columns) rows)
rows_long value columns n long [] = tt
rows_long value columns n long (row ∷ rows) = (long ∙ sym (length-map columns (value row)), rows_long value columns n long rows)

pub table_valid : (space : Layout) (view : View) (value : List ℕ → List ℕ → Value) (grid : Grid) → IsView space view → IsGridOf space view value grid → IsTableOf (axes space view.cube) view grid
table_valid space view value grid is of =
    let columns : List (List ℕ) = lines view.columns in
    let column_count : length grid.columns_shown.items ≡ length columns =
    ap length of.columns_shown ∙ length-map-range_with_len (λ column. not view.nozeros || list_any (is_other_at column) grid.values.items) 0 (length columns) in
    let row_count : length grid.values.items ≡ length grid.rows.items =
    ap length of.values ∙ length-map (lines view.rows) (λ row. map (value row) columns) ∙ ap length (sym of.rows) in
    record {
      rows = subst (All (IsLine (axes space view.cube) view.rows)) (sym of.rows) (lines_are (axes space view.cube) view.rows is.rows);
      columns = subst (All (IsLine (axes space view.cube) view.columns)) (sym of.columns) (lines_are (axes space view.cube) view.columns is.columns);
      values = row_count;
      each = subst (All (λ values. length grid.columns_shown.items ≡ length values)) (sym of.values)
          (from_each (λ values. length grid.columns_shown.items ≡ length values) (map (λ row. map (value row) columns) (lines view.rows))
          (rows_long value columns (length grid.columns_shown.items) column_count (lines view.rows)));
      rows_shown = ap length of.rows_shown ∙ length-map grid.values.items (is_shown view.nozeros) ∙ row_count;
      columns_shown = column_count ∙ ap length (sym of.columns);
    }

-- the title, the head lines and the rows are the table
pub text_is : (space : Layout) (view : View) (values : ℕ → Value) (grid : Grid) (title heading text : List ℕ) (rows columns : ℕ)
    → IsGridOf space view (λ row column. values (cell_at space view row column)) grid
    → rows ≡ count_by (λ shown. shown) grid.rows_shown.items → columns ≡ count_by (λ shown. shown) grid.columns_shown.items
    → title ≡ [] ++ title_of rows columns → heading ≡ title ++ heads space view grid.columns.items grid.columns_shown.items
    → text ≡ heading ++ row_lines space view grid.rows.items grid.values.items grid.rows_shown.items grid.columns_shown.items → text ≡ table_text space view values
unfolding table_text
text_is space view values grid title heading text rows columns of row_count column_count titled headed is =
    let below = row_lines space view grid.rows.items grid.values.items grid.rows_shown.items grid.columns_shown.items in
    let over = heads space view grid.columns.items grid.columns_shown.items in
    is ∙ ap (λ l. l ++ below) (headed ∙ ap (λ l. l ++ over) (titled ∙ ap (λ n. title_of n columns) row_count ∙ ap (λ n. title_of (count_by (λ shown. shown) grid.rows_shown.items) n) column_count))
    ∙ table_is space view (λ row column. values (cell_at space view row column)) grid.rows.items grid.columns.items grid.values.items grid.rows_shown.items grid.columns_shown.items
    of.rows of.columns of.values of.rows_shown of.columns_shown
