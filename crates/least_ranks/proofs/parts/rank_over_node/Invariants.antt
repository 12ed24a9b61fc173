use Rattle.std.proofs.Common.{◌<◌, ℕ}
use Rattle.least_ranks.specs.declared.arrow.Arrow.{Arrow}
use Rattle.least_ranks.specs.Graph.{IsArrow}
use Rattle.least_ranks.specs.Inside.Trails.{state_of}
use Rattle.least_ranks.specs.Inside.Bounds.{IsOverArrow, IsLowest, IsBound}
use Rattle.least_ranks.proofs.parts.rank_over_node.Given as goal

abbrev pub invariant-loop-slot : goal.invariant-loop-slot
invariant-loop-slot g l = record {
  over : (slot : ℕ) (arrow : Arrow) → slot < l.slot → IsArrow (g.G.Graph.arrows l.graph) l.node slot arrow
      → IsOverArrow l.rank arrow (state_of l.walk arrow.to);
  lowest : IsLowest (g.G.Graph.arrows l.graph) l.node l.rank;
  small : IsBound (g.G.Graph.arrows l.graph) l.walk l.rank;
}
