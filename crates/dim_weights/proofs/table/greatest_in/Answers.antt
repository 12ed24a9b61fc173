use Rattle.std.proofs.Common.{w64, FitsSigned, get_or, pos, rules, arith}
use Rattle.std.proofs.lemmas.Int.{to_z-of_z}
use Rattle.dim_weights.proofs.Pairs.{greatest_in-more}
use Rattle.dim_order.proofs.Maxima.{ord_max-is}
use Rattle.dim_weights.proofs.table.greatest_in.Goals as goal

pub loop-pair-preserved : goal.loop-pair-preserved
loop-pair-preserved c =
    let fits : FitsSigned w64 (get_or c.args.pairs.now c.loop-pair.pair-index (0, pos 0)).1 = search rules in
    let same = to_z-of_z w64 (get_or c.args.pairs.now c.loop-pair.pair-index (0, pos 0)).1 fits in
    let size = rw same at c.unsigned_abs.ensures.value in
    let more = greatest_in-more c.args.pairs.now c.loop-pair.pair-index (0, pos 0) c.loop-pair-test.true in
    omega (arith, more, size, c.loop-pair.invariant, c.max-greatest.ensures, ord_max-is c.loop-pair.greatest c.unsigned_abs.result)
