use Rattle.std.proofs.Common.{◌≡◌, ◌+◌, ◌*◌, drop, true}
use Rattle.cube_space.specs.Radix.{product, are_digits, number_of}
use Rattle.cube_space.proofs.digits.number_of.Given as goal

-- the digits so far count for all combinations of those after them
abbrev pub invariant-loop-i : goal.invariant-loop-i
invariant-loop-i l = record {
  digits : are_digits (drop l.i l.sizes) (drop l.i l.digits) ≡ true;
  number : l.number * product (drop l.i l.sizes) + number_of (drop l.i l.sizes) (drop l.i l.digits) ≡ number_of l.sizes l.digits;
}
