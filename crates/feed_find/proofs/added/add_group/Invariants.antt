use Rattle.std.proofs.Common.{◌≡◌, ◌+◌, ◌++◌, length}
use Rattle.feed_find.specs.Added.{numbered}
use Rattle.feed_find.proofs.added.add_group.Given as goal

abbrev pub invariant-loop-feeder : goal.invariant-loop-feeder
invariant-loop-feeder l = record {
  next : (goal.iterator-loop-feeder).can_next l.feeder-iterator;
  finite : (goal.iterator-loop-feeder).is_finite l.feeder-iterator;
  number : l.number ≡ l.first + length l.yielded;
  added : l.feeders.items ≡ l.fn.feeders.items ++ numbered l.first l.yielded;
}
