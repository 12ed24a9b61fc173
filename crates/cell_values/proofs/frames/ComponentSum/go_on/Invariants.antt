use Rattle.std.proofs.Common.{◌≡◌, length, ◌-◌}
use Rattle.cell_values.specs.Inside.Frames.{components_left}
use Rattle.cell_values.specs.Inside.Sums.{Advances}
use Rattle.memo_cells.specs.Knowledge.{Grew}
use Rattle.cell_values.proofs.frames.ComponentSum.go_on.Given as goal

-- the sum went on, over the components of the same cell, and what is remembered grew
abbrev pub invariant-parts : goal.invariant-parts
invariant-parts g l = record {
  advances : Advances l.version l.fn.self.sum (components_left l.version l.fn.self) l.self.sum (components_left l.version l.self);
  cell : l.self.cell ≡ l.fn.self.cell;
  dim : l.self.dim ≡ l.fn.self.dim;
  values : g.M.Memory.values l.memory ≡ g.M.Memory.values l.fn.memory;
  grew : Grew (g.M.Memory.known l.fn.memory) (g.M.Memory.known l.memory);
}

abbrev pub decreases-parts : goal.decreases-parts
decreases-parts g l = length l.parts - l.self.next
