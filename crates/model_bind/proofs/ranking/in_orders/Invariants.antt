use Rattle.std.proofs.Common.{◌≡◌, length}
use Rattle.model_bind.proofs.Reordered.{AreReordered}
use Rattle.model_bind.proofs.ranking.in_orders.Given as goal

-- the rules so far have their orders
abbrev pub invariant-loop-order : goal.invariant-loop-order
invariant-loop-order l = record {
  next : (goal.iterator-loop-order).can_next l.order-iterator;
  finite : (goal.iterator-loop-order).is_finite l.order-iterator;
  place : l.cube ≡ length l.yielded;
  reordered : AreReordered l.fn.rules.items l.yielded l.rules.items;
}
