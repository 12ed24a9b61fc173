use Rattle.std.proofs.Common.{◌≡◌, ◌-◌, ◌^◌}
use Rattle.cell_store.specs.Entries.{cells_of}
use Rattle.sparse_sum.specs.Live.{live_from}
use Rattle.sparse_sum.proofs.walk.next_leaf.Given as goal

-- nothing that is left was passed
abbrev pub invariant-jumps : goal.invariant-jumps
invariant-jumps g l = record {
  same : live_from l.space (cells_of l.stored) (g.W.CellSet.cells l.fed) l.cell l.fn.from ≡ live_from l.space (cells_of l.stored) (g.W.CellSet.cells l.fed) l.cell l.from;
}

abbrev pub decreases-jumps : goal.decreases-jumps
decreases-jumps g l = 2 ^ 64 - l.from
