use Rattle.std.proofs.Common.{◌≡◌, length}
use Rattle.cell_values.specs.Inside.Frames.{leaves_left}
use Rattle.cell_values.specs.Inside.Sums.{Advances}
use Rattle.memo_cells.specs.Knowledge.{Grew}
use Rattle.cell_values.proofs.frames.LeafSum.go_on.Given as goal

-- the sum went on, at the same cell, and what is remembered grew
abbrev pub invariant-leaves : goal.invariant-leaves
invariant-leaves g l = record {
  advances : Advances l.version l.fn.self.walk.total (leaves_left l.version l.fn.self) l.self.walk.total (leaves_left l.version l.self);
  cell : l.self.walk.cell ≡ l.fn.self.walk.cell;
  values : g.M.Memory.values l.memory ≡ g.M.Memory.values l.fn.memory;
  grew : Grew (g.M.Memory.known l.fn.memory) (g.M.Memory.known l.memory);
}

abbrev pub decreases-leaves : goal.decreases-leaves
decreases-leaves g l = length (leaves_left l.version l.self)
