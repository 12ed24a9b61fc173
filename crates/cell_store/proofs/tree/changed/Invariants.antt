-- What is written so far, with the rest of the writes, is the whole.
use Rattle.std.proofs.Common.{◌≡◌, length}
use Rattle.cell_store.specs.Inside.Order.{IsRising, after_entries}
use Rattle.cell_store.proofs.tree.changed.Given as goal

abbrev pub invariant-loop-rest : goal.invariant-loop-rest
invariant-loop-rest g l = record {
  sized : g.T.Part.is_sized l.after;
  rising : IsRising g.E.Placed.cell (g.T.Part.entries l.after);
  writes : IsRising g.E.Placed.cell l.rest;
  entries : after_entries g.E.Placed.cell g.E.Stored.is_gone (g.T.Part.entries l.after) l.rest ≡ after_entries g.E.Placed.cell g.E.Stored.is_gone (g.T.Part.entries l.part) l.writes;
}

abbrev pub decreases-loop-rest : goal.decreases-loop-rest
decreases-loop-rest g l = length l.rest
