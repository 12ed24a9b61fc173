use Rattle.std.proofs.Common.{◌≡◌, ◌++◌, length}
use Rattle.explanation.specs.Cursor.{IsAt}
use Rattle.note_lines.specs.Bare.{bare_lines}
use Rattle.note_lines.proofs.bare.lines_among.Given as goal

abbrev pub invariant-token : goal.invariant-token
invariant-token l = (l.lines.items ++ bare_lines l.file l.text l.left ≡ bare_lines l.file l.text l.fn.tokens) × IsAt l.text l.cursor

abbrev pub decreases-token : goal.decreases-token
decreases-token l = length l.left
