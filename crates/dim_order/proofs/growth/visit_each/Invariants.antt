use Rattle.std.proofs.Common.{◌≡◌, length}
use Rattle.dim_order.specs.Inside.Growth.{IsGrown}
use Rattle.dim_order.proofs.growth.visit_each.Given as goal

abbrev pub invariant-elements : goal.invariant-elements
invariant-elements l = record {
  room : l.members.room ≡ length l.lists;
  grown : IsGrown l.joining l.lists l.members.list;
}
