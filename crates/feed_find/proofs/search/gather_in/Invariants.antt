use Rattle.std.proofs.Common.{List, ◌++◌, All}
use Rattle.std.specs.List.{flat_map, range_with_len}
use Rattle.feed_find.specs.Found.{Picked, picked_at}
use Rattle.feed_find.specs.Added.{IsFound}
use Rattle.feed_find.specs.Views.{IsKept, AreGathered}
use Rattle.feed_find.proofs.search.gather_in.Given as goal

abbrev pub invariant-each : goal.invariant-each
invariant-each l = record {
  added : (picked : List Picked) → AreGathered picked l.fn.gathered → AreGathered (picked ++ flat_map (picked_at l.model l.cube) (range_with_len 0 l.place)) l.gathered;
  valid : All (IsFound l.model.space) l.gathered.feeders;
  kept : IsKept l.model l.cube l.kept;
}
