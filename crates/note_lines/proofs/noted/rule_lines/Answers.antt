use Rattle.std.proofs.Common.{◌≡◌, ◌∙◌, ◌+◌, ◌∷◌, ◌++◌, All, List, ap, arith, drop, subst, suc, sym, take, take-append-drop}
use Rattle.file_passes.specs.Pass.{bytes_of}
use Rattle.note_lines.specs.Inside.Lines.{AreFileLines}
use Rattle.note_lines.specs.Notes.{cube_of, AreLinesOf}
use Rattle.note_lines.proofs.NoteLines.{of-cube, onward, with-first}
use Rattle.note_lines.proofs.noted.rule_lines.Goals as goal

pub cube-preserved : goal.cube-preserved
cube-preserved c =
    let readings = c.args.readings.now in
    let files = c.args.files.now in
    let found = c.args.found.now in
    let left = c.cube.left.now in
    let cube = c.cube_of-cube.result in
    let count = c.cube_count.result in
    let own = c.split_at.result.0.now in
    let others = c.split_at.result.1.now in
    let more : 1 + count ≡ suc count = omega arith in
    let begun : own ≡ c.in-Some.first.now ∷ take count c.in-Some.behind.now =
    c.split_at.ensures.front ∙ ap (λ n. take n left) more ∙ ap (take (suc count)) c.in-Some.ensures.cases.0 in
    let are : All (λ note. cube_of note ≡ cube) own =
    subst (All (λ note. cube_of note ≡ cube)) (sym begun)
    (with-first cube c.in-Some.first.now (take count c.in-Some.behind.now) (sym c.cube_of-cube.ensures) c.cube_count.ensures.same) in
    let lines : AreLinesOf readings files own c.in_ok-cube_lines.field-0.items =
    of-cube readings files cube own c.in_ok-cube_lines.field-0.items are
    (subst (λ file. AreFileLines file (bytes_of readings file) own c.in_ok-cube_lines.field-0.items) c.file_of.ensures c.in_ok-cube_lines.ensures) in
    let parts : own ++ others ≡ left =
    ap (λ l. l ++ others) c.split_at.ensures.front ∙ ap (λ l. take (1 + count) left ++ l) c.split_at.ensures.back ∙ take-append-drop (1 + count) left in
    let items = c.in_ok-extend_from_slice.ensures.items ∙ ap (λ l. c.cube.lines.items ++ l) c.deref.ensures.value in
    let it = c.cube.invariant in
    let all = onward readings files found it.0 left own others c.cube.lines.items c.in_ok-cube_lines.field-0.items it.1 parts it.2 lines in
    (all.0, all.1, subst (AreLinesOf readings files all.0) (sym items) all.2)
