use Rattle.std.proofs.Common.{◌<◌, arith, false, length, get_or}
use Rattle.std.proofs.lemmas.List.{get_or_default}
use Rattle.rule_notes.specs.declared.note.Note.{Note}
use Rattle.rule_notes.specs.declared.note.Note.TheVariants.{NotReached}
use Rattle.note_lines.proofs.NoteLines.{further}
use Rattle.note_lines.proofs.noted.text_lines.Goals as goal

pub loop-note-preserved : goal.loop-note-preserved
loop-note-preserved c =
    let found = c.args.found.now in
    let at = c.loop-note.note-index in
    let other : Note = NotReached 0 0 false 0 in
    let note = get_or found at other in
    let inside : at < length found = omega (arith, c.loop-note-test.true) in
    further c.args.file.now c.args.text.now found c.loop-note.rules c.push_note.new.rules at c.loop-note.lines.items c.push_note.new.lines.items note c.loop-note.invariant
    inside (get_or_default found at other note inside) c.in_ok-push_note.ensures.line c.in_ok-push_note.ensures.known c.in_ok-push_note.ensures.same
