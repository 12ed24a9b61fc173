use Rattle.std.proofs.Common.{◌≡◌, ◌++◌, map, drop, fold}
use Rattle.std.specs.List.{flat_map}
use Rattle.view_query.specs.Views.{cell_at}
use Rattle.view_query.proofs.reading.all_values.Given as goal

abbrev pub invariant-loop-row : goal.invariant-loop-row
invariant-loop-row g l = record {
  table : l.all.items ++ map (λ row. map (λ column. g.C.Cells.values l.fn.cells (cell_at l.space l.view row column)) l.columns) (drop l.row-index l.rows)
      ≡ map (λ row. map (λ column. g.C.Cells.values l.fn.cells (cell_at l.space l.view row column)) l.columns) l.rows;
  asked : fold g.C.Cells.after_asking (g.C.Cells.asked l.cells) (flat_map (λ row. map (cell_at l.space l.view row) l.columns) (drop l.row-index l.rows))
      ≡ fold g.C.Cells.after_asking (g.C.Cells.asked l.fn.cells) (flat_map (λ row. map (cell_at l.space l.view row) l.columns) l.rows);
  values : g.C.Cells.values l.cells ≡ g.C.Cells.values l.fn.cells;
  size : g.C.Cells.size l.cells ≡ g.C.Cells.size l.fn.cells;
}
