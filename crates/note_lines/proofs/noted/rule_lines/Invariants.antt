use Rattle.std.proofs.Common.{◌≡◌, ◌++◌, List, length}
use Rattle.rule_notes.specs.declared.note.Note.{Note}
use Rattle.note_lines.specs.Notes.{AreLinesOf}
use Rattle.note_lines.proofs.noted.rule_lines.Given as goal

-- the lines of the notes so far
abbrev pub invariant-cube : goal.invariant-cube
invariant-cube l = (done : List Note) × (done ++ l.left ≡ l.found) × AreLinesOf l.readings l.files done l.lines.items

abbrev pub decreases-cube : goal.decreases-cube
decreases-cube l = length l.left
