-- The cells of the writes so far rise.
use Rattle.cell_store.proofs.LastWrites.{RisesUpTo}
use Rattle.cell_store.proofs.writes.is_rising.Given as goal

abbrev pub invariant-loop-place : goal.invariant-loop-place
invariant-loop-place g l = RisesUpTo g.E.Placed.cell l.writes l.place
