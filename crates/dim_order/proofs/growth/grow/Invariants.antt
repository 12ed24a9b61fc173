use Rattle.std.proofs.Common.{◌≡◌, ◌≤◌, length}
use Rattle.dim_order.specs.Inside.Growth.{IsGrown}
use Rattle.dim_order.proofs.growth.grow.Given as goal

abbrev pub invariant-loop-round : goal.invariant-loop-round
invariant-loop-round l = record {
  room : l.members.room ≡ length l.lists;
  grown : IsGrown l.joining l.lists l.members.list;
  longer : l.round ≤ length l.members.list;
}
