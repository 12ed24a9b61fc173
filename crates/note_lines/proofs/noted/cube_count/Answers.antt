use Rattle.std.proofs.Common.{◌≡◌, ◌∙◌, ◌<◌, All, arith, false, length, get_or, subst, sym, take}
use Rattle.std.proofs.lemmas.List.{take_more}
use Rattle.std.proofs.lemmas.List.Elements.{All-push}
use Rattle.rule_notes.specs.declared.note.Note.{Note}
use Rattle.rule_notes.specs.declared.note.Note.TheVariants.{NotReached}
use Rattle.note_lines.specs.Notes.{cube_of}
use Rattle.note_lines.proofs.noted.cube_count.Goals as goal

pub note-preserved : goal.note-preserved
note-preserved c =
    let found = c.args.found.now in
    let count = c.note.count in
    let other : Note = NotReached 0 0 false 0 in
    let inside : count < length found = omega (arith, c.note-test.true) in
    let here : cube_of (get_or found count other) ≡ c.args.cube = sym c.cube_of.ensures ∙ c.if-cube_of-cube.true in (
      omega (arith, inside),
      subst (All (λ note. cube_of note ≡ c.args.cube)) (sym (take_more found count other inside))
          (All-push (λ note. cube_of note ≡ c.args.cube) (take count found) (get_or found count other) c.note.invariant.1 here),
    )
