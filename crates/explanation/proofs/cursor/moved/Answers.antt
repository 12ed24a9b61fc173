use Rattle.std.proofs.Common.{arith}
use Rattle.explanation.proofs.LineParts.{at-end}
use Rattle.explanation.proofs.cursor.moved.Goals as goal

pub returns-else-here-text-clause-at : goal.returns-else-here-text-clause-at
returns-else-here-text-clause-at c =
    at-end c.args.text.now c.byte.here c.args.to c.byte.invariant.0 c.byte.invariant.1 (λ before. omega (arith, c.if-here-text.false))
