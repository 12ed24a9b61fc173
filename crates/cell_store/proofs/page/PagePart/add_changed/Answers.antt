-- Each write is merged at its place.
use Rattle.std.proofs.Common.{◌≡◌, take, arith, ◌∙◌}
use Rattle.cell_store.specs.Inside.Order.{below_by, above_by}
use Rattle.cell_store.proofs.Edits.{merge-next, rising-above}
use Rattle.cell_store.proofs.page.PagePart.add_changed.Goals as goal

pub loop-write-preserved : goal.loop-write-preserved
loop-write-preserved g c =
    let cell = g.E.Placed.cell in
    let is_gone = g.E.Stored.is_gone in
    let write = c.write-item.result in
    let rest = c.loop-write.rest.now in
    let front : take c.count_below-below.result rest ≡ below_by cell rest (cell write) = rw c.cell-cell.ensures at c.count_below-below.ensures.front in
    let later : c.above-rest.result.now ≡ above_by cell rest (cell write) = rw c.cell-cell.ensures at c.above-rest.ensures in
    record {
      rising = rising-above cell is_gone (cell write) rest c.above-rest.result.now later c.loop-write.invariant.rising;
      entries = merge-next cell is_gone c.loop-write.self.entries.items c.add.new.entries.items rest (take c.count_below-below.result rest) c.above-rest.result.now c.args.writes.now c.loop-write.write-index write (omega arith) c.write-item.is c.requires.writes front c.in_ok-add.ensures later ∙ c.loop-write.invariant.entries;
    }
