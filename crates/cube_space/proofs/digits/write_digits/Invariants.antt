use Rattle.std.proofs.Common.{◌≡◌, ◌+◌, ◌*◌, drop, take, length, true}
use Rattle.cube_space.specs.Radix.{product, are_digits, number_of}
use Rattle.cube_space.proofs.digits.write_digits.Given as goal

-- what is left counts for all combinations of the digits that are written
abbrev pub invariant-loop-i : goal.invariant-loop-i
invariant-loop-i l = record {
  digits : are_digits (drop l.i l.sizes) (drop l.i (take (length l.sizes) l.places)) ≡ true;
  number : l.rest * product (drop l.i l.sizes) + number_of (drop l.i l.sizes) (drop l.i (take (length l.sizes) l.places)) ≡ l.fn.number;
  room : length l.places ≡ 16;
  others : drop (length l.sizes) l.places ≡ drop (length l.sizes) l.initial.places;
}
