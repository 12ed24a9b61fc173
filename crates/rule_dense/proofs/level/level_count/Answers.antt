use Rattle.std.proofs.Common.{arith}
use Rattle.dim_order.proofs.Maxima.{ord_max-is}
use Rattle.rule_model.specs.Order.{cell_level}
use Rattle.rule_dense.proofs.Ranges.{greatest-more}
use Rattle.rule_dense.proofs.level.level_count.Goals as goal

pub loop-cell-preserved : goal.loop-cell-preserved
loop-cell-preserved c =
    let more = greatest-more (cell_level c.args.space.now) c.loop-cell.cell in
    let greater = ord_max-is c.loop-cell.greatest c.cell_level.result in
    record {
      so_far = omega (arith, more, greater, c.max-greatest.ensures, c.loop-cell.invariant.so_far, c.cell_level.ensures.level);
      most = omega (arith, greater, c.max-greatest.ensures, c.loop-cell.invariant.most, c.cell_level.ensures.most);
    }
