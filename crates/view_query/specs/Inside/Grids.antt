-- The grid of a view, by the values of its cells.
use Rattle.std.specs.Prelude.{◌≡◌, ℕ, ◌||◌, not, List, map, length}
use Rattle.std.specs.List.{list_any, range_with_len}
use Rattle.cube_fixed.specs.declared.value.Value.{Value}
use Rattle.cube_space.specs.Layout.{Layout}
use Rattle.view_query.specs.declared.grid.Grid.{Grid}
use Rattle.view_query.specs.declared.shape.View.{View}
use Rattle.view_query.specs.Views.{lines}
use Rattle.view_query.specs.Table.{is_shown}
use Rattle.view_query.specs.Inside.Lines.{is_other_at}

-- all lines of the view, with these values; a column is named by its index
pub record IsGridOf (space : Layout) (view : View) (value : List ℕ → List ℕ → Value) (grid : Grid) : Type 0 where
  pub rows : grid.rows.items ≡ lines view.rows
  pub columns : grid.columns.items ≡ lines view.columns
  pub values : grid.values.items ≡ map (λ row. map (value row) (lines view.columns)) (lines view.rows)
  pub rows_shown : grid.rows_shown.items ≡ map (is_shown view.nozeros) grid.values.items
  pub columns_shown : grid.columns_shown.items
      ≡ map (λ column. not view.nozeros || list_any (is_other_at column) grid.values.items)
      (range_with_len 0 (length (lines view.columns)))
