use Rattle.std.proofs.Common.{◌-◌, ◌≤◌}
use Rattle.explanation.specs.Cursor.{IsAt}
use Rattle.explanation.proofs.cursor.moved.Given as goal

abbrev pub invariant-byte : goal.invariant-byte
invariant-byte l = IsAt l.text l.here × (l.here.at ≤ l.to)

abbrev pub decreases-byte : goal.decreases-byte
decreases-byte l = l.to - l.here.at
