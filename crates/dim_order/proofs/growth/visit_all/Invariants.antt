use Rattle.std.proofs.Common.{◌≡◌, ◌<◌, ◌⊎◌, ℕ, length}
use Rattle.dim_order.specs.Inside.Growth.{IsGrown, IsSettled}
use Rattle.dim_order.proofs.growth.visit_all.Given as goal

abbrev pub invariant-loop-element : goal.invariant-loop-element
invariant-loop-element l = record {
  room : l.members.room ≡ length l.lists;
  grown : IsGrown l.joining l.lists l.members.list;
  visited : (length l.initial.members.list < length l.members.list) ⊎ ((l.members.list ≡ l.initial.members.list) × ((k : ℕ) → k < l.element → IsSettled l.joining l.lists l.members.list k));
}
