use Rattle.note_lines.proofs.NoteLines.{AreLinesUpTo}
use Rattle.note_lines.proofs.noted.text_lines.Given as goal

abbrev pub invariant-loop-note : goal.invariant-loop-note
invariant-loop-note l = AreLinesUpTo l.file l.text l.found l.rules l.note-index l.lines.items
