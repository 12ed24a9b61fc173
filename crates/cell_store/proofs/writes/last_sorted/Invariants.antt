-- The last writes so far.
use Rattle.cell_store.proofs.LastWrites.{LastSoFar}
use Rattle.cell_store.proofs.writes.last_sorted.Given as goal

abbrev pub invariant-loop-write : goal.invariant-loop-write
invariant-loop-write g l = LastSoFar g.E.Placed.cell l.writes l.write-index l.last.items
