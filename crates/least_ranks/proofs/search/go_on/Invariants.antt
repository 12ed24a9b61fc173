use Rattle.std.proofs.Common.{◌≡◌, ◌≤◌, slice_index}
use Rattle.least_ranks.specs.Inside.Trails.{IsTop, work_left}
use Rattle.least_ranks.specs.Inside.Sound.{IsSound, IsLater}
use Rattle.least_ranks.proofs.search.go_on.Given as goal

abbrev pub invariant-loop-slot : goal.invariant-loop-slot
invariant-loop-slot g l = record {
  sound : IsSound (g.G.Graph.arrows l.graph) l.walk;
  top : IsTop l.walk l.place;
  node : l.node ≡ slice_index l.walk.path l.place;
  slots : slice_index l.walk.passed l.place ≡ l.slot;
  less : work_left l.walk ≤ work_left l.initial.walk;
  later : IsLater l.initial.walk l.walk;
}
