use Rattle.std.proofs.Common.{◌≡◌, ◌≤◌, ◌+◌, [], length}
use Rattle.std.specs.Prelude.{slice_index_or}
use Rattle.explanation.specs.Operands.{operands, outside}
use Rattle.explanation.proofs.operands.operand_behind.Given as goal

abbrev pub invariant-token : goal.invariant-token
invariant-token l = (slice_index_or (operands l.within l.left) l.before [] ≡ slice_index_or (operands outside l.fn.tokens) l.others [])
    × (l.within.depth + length l.left ≤ l.count)

abbrev pub decreases-token : goal.decreases-token
decreases-token l = length l.left
