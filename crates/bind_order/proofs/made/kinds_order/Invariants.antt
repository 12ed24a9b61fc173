use Rattle.std.proofs.Common.{◌≡◌, map}
use Rattle.bind_order.specs.ByKind.{leaf_position, total_position}
use Rattle.bind_order.proofs.made.kinds_order.Given as goal

abbrev pub invariant-loop-position : goal.invariant-loop-position
invariant-loop-position l = record {
  next : (goal.iterator-loop-position).can_next l.position-iterator;
  finite : (goal.iterator-loop-position).is_finite l.position-iterator;
  leaves : l.leaves.items ≡ map leaf_position l.yielded;
  totals : l.totals.items ≡ map total_position l.yielded;
}
