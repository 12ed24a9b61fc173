use Rattle.std.proofs.Common.{◌≡◌, [], ◌++◌, length, map}
use Rattle.cell_store.specs.Entries.{cells_of}
use Rattle.sparse_sum.specs.Walking.{left}
use Rattle.cell_reader.specs.StoredBelow.{stored_below}
use Rattle.cell_reader.proofs.stored_below.stored_below.Given as goal

-- the cells so far are the first ones
abbrev pub invariant-leaves : goal.invariant-leaves
invariant-leaves l = record {
  front : l.cells.items ++ map (λ pair. pair.0) (left l.space (cells_of l.store) [] l.walk) ≡ stored_below l.space l.store l.cell;
  cell : l.walk.cell ≡ l.cell;
}

abbrev pub decreases-leaves : goal.decreases-leaves
decreases-leaves l = length (left l.space (cells_of l.store) [] l.walk)
