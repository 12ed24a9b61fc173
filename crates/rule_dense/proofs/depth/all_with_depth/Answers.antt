use Rattle.std.proofs.Common.{ap}
use Rattle.rule_dense.specs.Inside.Depths.{with_depth}
use Rattle.rule_dense.proofs.Ranges.{map-push}
use Rattle.rule_dense.proofs.depth.all_with_depth.Goals as goal

pub loop-cell-preserved : goal.loop-cell-preserved
loop-cell-preserved c =
    map-push (with_depth c.args.model.now) c.loop-cell.cells.items c.push.new.self.items c.loop-cell.cell (c.depth.result, c.loop-cell.cell) c.in_ok-push.ensures.items c.loop-cell.invariant
    (ap (λ d. (d, c.loop-cell.cell)) c.depth.ensures)
