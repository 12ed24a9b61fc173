-- A grid that is one of a view.
use Rattle.std.specs.Prelude.{◌≡◌, List, length, All}
use Rattle.dim_core.specs.Outline.{Outline}
use Rattle.view_query.specs.declared.grid.Grid.{Grid}
use Rattle.view_query.specs.declared.shape.View.{View}
use Rattle.view_query.specs.Inside.Lines.{IsLine}

-- its lines are lines of the view, each row has a value for each column, and of each line it's known whether it's shown
pub record IsTableOf (dimensions : List Outline) (view : View) (grid : Grid) : Type 0 where
  pub rows : All (IsLine dimensions view.rows) grid.rows.items
  pub columns : All (IsLine dimensions view.columns) grid.columns.items
  pub values : length grid.values.items ≡ length grid.rows.items
  pub each : All (λ values. length grid.columns_shown.items ≡ length values) grid.values.items
  pub rows_shown : length grid.rows_shown.items ≡ length grid.rows.items
  pub columns_shown : length grid.columns_shown.items ≡ length grid.columns.items
