use Rattle.std.proofs.Common.{◌≡◌, ◌++◌, map, drop}
use Rattle.std.specs.List.{enumerate_from, items_where_true}
use Rattle.view_query.specs.Table.{head_line}
use Rattle.view_query.specs.Inside.Text.{led}
use Rattle.view_query.proofs.written.write_heads.Given as goal

abbrev pub invariant-loop-index : goal.invariant-loop-index
invariant-loop-index l =
    l.out.items ++ led (map (head_line l.space l.view (items_where_true l.grid.columns_shown.items l.grid.columns.items)) (enumerate_from l.index (drop l.index l.view.columns)))
    ≡ l.fn.out.items ++ led (map (head_line l.space l.view (items_where_true l.grid.columns_shown.items l.grid.columns.items)) (enumerate_from 0 l.view.columns))
