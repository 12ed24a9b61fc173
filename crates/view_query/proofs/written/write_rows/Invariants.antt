use Rattle.std.proofs.Common.{◌≡◌, ◌++◌}
use Rattle.view_query.proofs.WritingFacts.{rows_from}
use Rattle.view_query.proofs.written.write_rows.Given as goal

abbrev pub invariant-loop-place : goal.invariant-loop-place
invariant-loop-place l =
    l.out.items ++ rows_from l.space l.view l.grid.columns_shown.items l.grid.rows.items l.grid.values.items l.grid.rows_shown.items l.place
    ≡ l.fn.out.items ++ rows_from l.space l.view l.grid.columns_shown.items l.grid.rows.items l.grid.values.items l.grid.rows_shown.items 0
