-- The next cell is the cell itself where it is in the set.
use Rattle.std.proofs.Common.{sym}
use Rattle.cell_store.proofs.Rising.{Rises-from_increasing}
use Rattle.cell_store.proofs.NextCells.{has-next, has-none}
use Rattle.cell_store.proofs.cells.CellSet.has.Goals as goal

pub returns-in-Some : goal.returns-in-Some
returns-in-Some g c = has-next _ _ _ (Rises-from_increasing _ c.in-Some.ensures.rising) (sym c.in-Some.ensures.next)

pub returns-in-None : goal.returns-in-None
returns-in-None g c = has-none _ _ (Rises-from_increasing _ c.in-None.ensures.rising) (sym c.in-None.ensures.next)
