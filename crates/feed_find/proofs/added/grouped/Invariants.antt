use Rattle.std.proofs.Common.{◌≡◌, ◌<◌, [], All}
use Rattle.std.specs.Vec.Iter.{into_iter_items}
use Rattle.feed_find.specs.declared.chosen.FoundFeeder.{FoundFeeder}
use Rattle.feed_find.specs.Views.{lists_in, groups_of}
use Rattle.feed_find.proofs.added.grouped.Given as goal

abbrev pub invariant-cubes : goal.invariant-cubes
invariant-cubes l = lists_in l.groups.items ≡ groups_of l.count []

abbrev pub invariant-loop-one : goal.invariant-loop-one
invariant-loop-one l = record {
  next : (goal.iterator-loop-one).can_next l.one-iterator;
  finite : (goal.iterator-loop-one).is_finite l.one-iterator;
  groups : lists_in l.groups.items ≡ groups_of l.cubes l.yielded;
  left : All (λ (one : FoundFeeder). one.cube < l.cubes) (into_iter_items l.one-iterator);
}
