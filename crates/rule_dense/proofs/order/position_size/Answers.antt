use Rattle.std.proofs.Common.{arith}
use Rattle.dim_order.proofs.Maxima.{ord_max-is}
use Rattle.rule_model.specs.Order.{number_at}
use Rattle.rule_dense.proofs.Ranges.{greatest-more}
use Rattle.rule_dense.proofs.order.position_size.Goals as goal

pub loop-cell-preserved : goal.loop-cell-preserved
loop-cell-preserved c =
    let more = greatest-more (number_at c.args.model.now c.args.place) c.loop-cell.cell in
    let greater = ord_max-is c.loop-cell.greatest c.number_at.result in
    record {
      so_far = omega (arith, more, greater, c.max-greatest.ensures, c.loop-cell.invariant.so_far, c.number_at.ensures);
      fits = omega (arith, greater, c.max-greatest.ensures, c.loop-cell.invariant.fits);
    }
