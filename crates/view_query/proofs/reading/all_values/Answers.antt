use Rattle.std.proofs.Common.{◌∙◌, List, ℕ, map, ap, fold}
use Rattle.cube_fixed.specs.declared.value.Value.{Value}
use Rattle.view_query.specs.Views.{cell_at}
use Rattle.view_query.proofs.LoopFacts.{one_mapped, one_asked}
use Rattle.view_query.proofs.reading.all_values.Goals as goal

pub loop-row-preserved : goal.loop-row-preserved
loop-row-preserved g c =
    let space = c.args.space.now in
    let view = c.args.view.now in
    let columns = c.args.columns.now in
    let i = c.loop-row.row-index in
    let of_row = λ (row : List ℕ). map (λ column. g.C.Cells.values c.args.cells.now (cell_at space view row column)) columns in
    let cells_of = λ (row : List ℕ). map (cell_at space view row) columns in
    let own = c.in_ok-row_values.ensures.row
    ∙ ap (λ (v : ℕ → Value). map (λ column. v (cell_at space view c.as_slice.result.now column)) columns) c.loop-row.invariant.values
    ∙ ap of_row c.as_slice.ensures in
    record {
      table = one_mapped of_row c.loop-row.all.items c.push.new.self.items (map of_row c.args.rows.now) c.args.rows.now i c.row-item.result c.in_ok-row_values.field-0
          c.loop-row-test.true c.row-item.is c.in_ok-push.ensures.items own c.loop-row.invariant.table;
      asked = one_asked g.C.Cells.after_asking cells_of (g.C.Cells.asked c.loop-row.cells) (g.C.Cells.asked c.row_values.new.cells) _ c.args.rows.now i c.row-item.result
          c.loop-row-test.true c.row-item.is (c.in_ok-row_values.ensures.asked ∙ ap (λ l. fold g.C.Cells.after_asking (g.C.Cells.asked c.loop-row.cells) (cells_of l)) c.as_slice.ensures) c.loop-row.invariant.asked;
      values = c.row_values.ensures.values ∙ c.loop-row.invariant.values;
      size = c.row_values.ensures.size ∙ c.loop-row.invariant.size;
    }
