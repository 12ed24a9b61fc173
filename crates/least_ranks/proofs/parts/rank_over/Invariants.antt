use Rattle.std.proofs.Common.{◌<◌, ℕ, slice_index}
use Rattle.least_ranks.specs.Inside.Bounds.{IsOver, IsLowestOfSome, IsBound}
use Rattle.least_ranks.proofs.parts.rank_over.Given as goal

abbrev pub invariant-loop-node : goal.invariant-loop-node
invariant-loop-node g l = record {
  over : (k : ℕ) → k < l.node-index → IsOver (g.G.Graph.arrows l.graph) l.walk l.rank (slice_index l.nodes k);
  lowest : IsLowestOfSome (g.G.Graph.arrows l.graph) l.nodes l.rank;
  small : IsBound (g.G.Graph.arrows l.graph) l.walk l.rank;
}
