use Rattle.std.proofs.Common.{◌≡◌, ◌+◌, ◌*◌, drop, true}
use Rattle.cube_space.specs.Radix.{product, are_digits, number_of}
use Rattle.rule_model.specs.Order.{numbers_of}
use Rattle.rule_dense.proofs.order.rank.Given as goal

-- the numbers so far count for all combinations of those after them
abbrev pub invariant-loop-place : goal.invariant-loop-place
invariant-loop-place l = record {
  digits : are_digits (drop l.place l.sizes) (drop l.place (numbers_of l.model l.cell)) ≡ true;
  rank : l.rank * product (drop l.place l.sizes) + number_of (drop l.place l.sizes) (drop l.place (numbers_of l.model l.cell)) ≡ number_of l.sizes (numbers_of l.model l.cell);
}
