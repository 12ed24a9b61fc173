-- The first writes are made, and then the others.
use Rattle.std.proofs.Common.{◌≡◌, ◌++◌, ◌∙◌, take-append-drop}
use Rattle.cell_store.proofs.Edits.{rising-after, after-back_of}
use Rattle.cell_store.proofs.Parts.{rising-front, rising-back}
use Rattle.cell_store.proofs.tree.changed.Goals as goal

pub changed_once-requires-clause-writes : goal.changed_once-requires-clause-writes
changed_once-requires-clause-writes g c =
    let writes = c.args.writes.now in
    let parts : c.split_at.result.0.now ++ c.split_at.result.1.now ≡ writes = rw (c.split_at.ensures.front, c.split_at.ensures.back) (take-append-drop c.min.result writes) in
    rising-front g.E.Placed.cell c.split_at.result.0.now c.split_at.result.1.now writes parts c.requires.writes

pub loop-rest-init : goal.loop-rest-init
loop-rest-init g c =
    let cell = g.E.Placed.cell in
    let is_gone = g.E.Stored.is_gone in
    let writes = c.args.writes.now in
    let before = g.T.Part.entries c.args.part.now in
    let front = c.split_at.result.0.now in
    let back = c.split_at.result.1.now in
    let parts : front ++ back ≡ writes = rw (c.split_at.ensures.front, c.split_at.ensures.back) (take-append-drop c.min.result writes) in
    record {
      sized = c.in_ok-after.ensures.sized;
      rising = rw c.in_ok-after.ensures.entries (rising-after cell is_gone before front c.requires.rising);
      writes = rising-back cell front back writes parts c.requires.writes;
      entries = after-back_of cell is_gone before (g.T.Part.entries c.in_ok-after.after) writes front back parts c.in_ok-after.ensures.entries;
    }

pub changed_once-requires-in-loop-rest-clause-writes : goal.changed_once-requires-in-loop-rest-clause-writes
changed_once-requires-in-loop-rest-clause-writes g c =
    let rest = c.loop-rest.rest.now in
    let parts : c.split_at-in-loop-rest.result.0.now ++ c.split_at-in-loop-rest.result.1.now ≡ rest = rw (c.split_at-in-loop-rest.ensures.front, c.split_at-in-loop-rest.ensures.back) (take-append-drop c.min-in-loop-rest.result rest) in
    rising-front g.E.Placed.cell c.split_at-in-loop-rest.result.0.now c.split_at-in-loop-rest.result.1.now rest parts c.loop-rest.invariant.writes

pub loop-rest-preserved : goal.loop-rest-preserved
loop-rest-preserved g c =
    let cell = g.E.Placed.cell in
    let is_gone = g.E.Stored.is_gone in
    let rest = c.loop-rest.rest.now in
    let before = g.T.Part.entries c.loop-rest.after in
    let front = c.split_at-in-loop-rest.result.0.now in
    let back = c.split_at-in-loop-rest.result.1.now in
    let parts : front ++ back ≡ rest = rw (c.split_at-in-loop-rest.ensures.front, c.split_at-in-loop-rest.ensures.back) (take-append-drop c.min-in-loop-rest.result rest) in
    record {
      sized = c.in_ok-after-2.ensures.sized;
      rising = rw c.in_ok-after-2.ensures.entries (rising-after cell is_gone before front c.loop-rest.invariant.rising);
      writes = rising-back cell front back rest parts c.loop-rest.invariant.writes;
      entries = after-back_of cell is_gone before (g.T.Part.entries c.in_ok-after-2.after) rest front back parts c.in_ok-after-2.ensures.entries ∙ c.loop-rest.invariant.entries;
    }
