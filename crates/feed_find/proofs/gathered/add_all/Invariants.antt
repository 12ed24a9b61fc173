use Rattle.std.proofs.Common.{List, ◌++◌, map, All}
use Rattle.std.specs.Vec.Iter.{into_iter_items}
use Rattle.feed_find.specs.Found.{Picked}
use Rattle.feed_find.specs.Added.{IsFound}
use Rattle.feed_find.specs.Views.{IsChosen, AreGathered, as_picked}
use Rattle.feed_find.proofs.gathered.add_all.Given as goal

abbrev pub invariant-loop-one : goal.invariant-loop-one
invariant-loop-one l = record {
  next : (goal.iterator-loop-one).can_next l.one-iterator;
  finite : (goal.iterator-loop-one).is_finite l.one-iterator;
  added : (picked : List Picked) → AreGathered picked l.fn.gathered → AreGathered (picked ++ map (as_picked l.cube l.statement) l.yielded) l.gathered;
  valid : All (IsFound l.space) l.gathered.feeders;
  left : All (IsChosen l.space) (into_iter_items l.one-iterator);
}
