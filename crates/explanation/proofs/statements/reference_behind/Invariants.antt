use Rattle.std.proofs.Common.{◌≡◌, [], length}
use Rattle.std.specs.Prelude.{slice_index_or}
use Rattle.explanation.specs.Statements.{references}
use Rattle.explanation.proofs.statements.reference_behind.Given as goal

abbrev pub invariant-token : goal.invariant-token
invariant-token l = slice_index_or (references l.left) l.before [] ≡ slice_index_or (references l.fn.tokens) l.others []

abbrev pub decreases-token : goal.decreases-token
decreases-token l = length l.left
