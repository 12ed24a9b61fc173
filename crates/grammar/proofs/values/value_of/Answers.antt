use Rattle.std.proofs.Common.{arith}
use Rattle.grammar.proofs.Digits.{value_next}
use Rattle.grammar.proofs.values.value_of.Goals as goal

pub loop-digit-preserved : goal.loop-digit-preserved
loop-digit-preserved c =
    let next = value_next c.args.digits.now c.loop-digit.digit-index c.loop-digit.value c.requires c.loop-digit-test.true c.loop-digit.invariant in
    grind (arith, next)
