use Rattle.std.proofs.Common.{length}
use Rattle.explanation.proofs.statements.passed_all.Given as goal

abbrev pub decreases-token : goal.decreases-token
decreases-token l = length l.left
