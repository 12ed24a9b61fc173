use Rattle.std.proofs.Common.{take, map}
use Rattle.cell_versions.proofs.Added.{map_more}
use Rattle.cell_versions.proofs.Changed.{one_changed}
use Rattle.cell_versions.proofs.changes.change_by.Goals as goal

pub loop-write-preserved : goal.loop-write-preserved
loop-write-preserved c =
    let item = c.write-item.result in
    let more = map_more c.args.writes.now c.loop-write.write-index item c.loop-write-test.true c.write-item.is in
    rw more (one_changed c.args.before.now c.args.after.now (map (λ w. w.0) (take c.loop-write.write-index c.args.writes.now)) c.loop-write.went.items c.loop-write.came.items c.note.new.cells.items c.note-in-loop-write.new.cells.items item.0
    c.has-was.result c.has-is.result c.has-was.ensures c.has-is.ensures c.in_ok-note.ensures.kept c.in_ok-note.ensures.there c.in_ok-note-2.ensures.kept c.in_ok-note-2.ensures.there c.in_ok-note-2.ensures.only c.loop-write.invariant)
