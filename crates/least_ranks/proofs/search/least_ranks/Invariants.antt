use Rattle.std.proofs.Common.{◌≡◌, ◌<◌, ℕ, false, length}
use Rattle.least_ranks.specs.Inside.States.{is_new}
use Rattle.least_ranks.specs.Inside.Trails.{state_of}
use Rattle.least_ranks.specs.Inside.Sound.{IsSound}
use Rattle.least_ranks.proofs.search.least_ranks.Given as goal

abbrev pub invariant-loop-node : goal.invariant-loop-node
invariant-loop-node g l = record {
  sound : IsSound (g.G.Graph.arrows l.graph) l.walk;
  idle : length l.walk.path ≡ 0;
  begun : (k : ℕ) → k < l.node → is_new (state_of l.walk k) ≡ false;
}
