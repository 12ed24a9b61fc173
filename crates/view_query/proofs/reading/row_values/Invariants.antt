use Rattle.std.proofs.Common.{◌≡◌, ◌++◌, map, drop, fold}
use Rattle.view_query.specs.Views.{cell_at}
use Rattle.view_query.proofs.reading.row_values.Given as goal

abbrev pub invariant-loop-column : goal.invariant-loop-column
invariant-loop-column g l = record {
  row : l.values.items ++ map (λ column. g.C.Cells.values l.fn.cells (cell_at l.space l.view l.row column)) (drop l.column-index l.columns)
      ≡ map (λ column. g.C.Cells.values l.fn.cells (cell_at l.space l.view l.row column)) l.columns;
  asked : fold g.C.Cells.after_asking (g.C.Cells.asked l.cells) (map (cell_at l.space l.view l.row) (drop l.column-index l.columns))
      ≡ fold g.C.Cells.after_asking (g.C.Cells.asked l.fn.cells) (map (cell_at l.space l.view l.row) l.columns);
  values : g.C.Cells.values l.cells ≡ g.C.Cells.values l.fn.cells;
  size : g.C.Cells.size l.cells ≡ g.C.Cells.size l.fn.cells;
}
