use Rattle.std.proofs.Common.{All}
use Rattle.std.specs.List.{flat_map, range_with_len}
use Rattle.feed_find.specs.Found.{picked_if}
use Rattle.feed_find.specs.Added.{IsFound}
use Rattle.feed_find.specs.Views.{AreGathered}
use Rattle.feed_find.proofs.search.find.Given as goal

abbrev pub invariant-each : goal.invariant-each
invariant-each l = record {
  added : AreGathered (flat_map (picked_if l.model l.wanted) (range_with_len 0 l.cube)) l.gathered;
  valid : All (IsFound l.model.space) l.gathered.feeders;
}
