use Rattle.std.proofs.Common.{◌≡◌, ◌++◌, List, length, map}
use Rattle.cell_store.specs.Entries.{cells_of}
use Rattle.sparse_sum.specs.Live.{live_below}
use Rattle.sparse_sum.specs.Walking.{left}
use Rattle.sparse_sum.specs.Totals.{Answered, after_calls, total_of}
use Rattle.sparse_sum.proofs.total.sum_under.Given as goal

-- the leaf cells so far were asked for, and what was answered is summed up
abbrev pub invariant-leaves : goal.invariant-leaves
invariant-leaves g l = record {
  answered : List Answered;
  front : map (λ one. one.0) answered ++ left l.space (cells_of l.stored) (g.W.CellSet.cells l.fed) l.walk ≡ live_below l.space (cells_of l.stored) (g.W.CellSet.cells l.fed) l.cell;
  asked : g.L.Leaves.calls l.leaves ≡ after_calls g.L.Leaves.after_call (g.L.Leaves.calls l.fn.leaves) answered;
  total : l.walk.total ≡ total_of answered;
  cell : l.walk.cell ≡ l.cell;
}

abbrev pub decreases-leaves : goal.decreases-leaves
decreases-leaves g l = length (left l.space (cells_of l.stored) (g.W.CellSet.cells l.fed) l.walk)
