use Rattle.std.proofs.Common.{◌≡◌, length}
use Rattle.explanation.specs.Statements.{behind}
use Rattle.explanation.proofs.statements.behind.Given as goal

abbrev pub invariant-token : goal.invariant-token
invariant-token l = behind l.sign l.left ≡ behind l.sign l.fn.tokens

abbrev pub decreases-token : goal.decreases-token
decreases-token l = length l.left
