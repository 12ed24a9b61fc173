use Rattle.std.proofs.Common.{◌≡◌, drop}
use Rattle.grammar.proofs.cursor.position_left.Given as goal

abbrev pub invariant-token : goal.invariant-token
invariant-token l = l.tokens ≡ drop l.counter l.fn.tokens
