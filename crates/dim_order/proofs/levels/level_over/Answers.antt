use Rattle.std.proofs.Common.{slice_index, get_or, ◌+◌, pos, arith}
use Rattle.dim_order.proofs.LevelFacts.{level_over-more}
use Rattle.dim_order.proofs.Maxima.{ord_max-is}
use Rattle.dim_order.proofs.levels.level_over.Goals as goal

pub loop-part-preserved : goal.loop-part-preserved
loop-part-preserved c =
    let more = level_over-more (slice_index c.args.levels.now) c.args.parts.now c.loop-part.part-index (0, pos 0) c.loop-part-test.true in
    omega (arith, more, c.loop-part.invariant, c.max-greatest.ensures, ord_max-is c.loop-part.greatest (get_or c.args.levels.now (get_or c.args.parts.now c.loop-part.part-index (0, pos 0)).0 0 + 1))
