use Rattle.std.proofs.Common.{◌≡◌, ◌≤◌, ◌+◌, length}
use Rattle.explanation.specs.Written.{closing}
use Rattle.explanation.proofs.written.closing.Given as goal

abbrev pub invariant-token : goal.invariant-token
invariant-token l = (closing l.depth l.left ≡ closing 0 l.fn.tokens) × (l.depth + length l.left ≤ l.count)

abbrev pub decreases-token : goal.decreases-token
decreases-token l = length l.left
