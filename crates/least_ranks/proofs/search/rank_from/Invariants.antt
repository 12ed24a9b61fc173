use Rattle.std.proofs.Common.{◌≡◌, false}
use Rattle.least_ranks.specs.Inside.States.{is_new}
use Rattle.least_ranks.specs.Inside.Trails.{state_of, work_left}
use Rattle.least_ranks.specs.Inside.Sound.{IsSound, IsLater}
use Rattle.least_ranks.proofs.search.rank_from.Given as goal

abbrev pub invariant-turns : goal.invariant-turns
invariant-turns g l = record {
  sound : IsSound (g.G.Graph.arrows l.graph) l.walk;
  begun : is_new (state_of l.walk l.root) ≡ false;
  later : IsLater l.fn.walk l.walk;
}

abbrev pub decreases-turns : goal.decreases-turns
decreases-turns g l = work_left l.walk
