use Rattle.std.proofs.Common.{◌≡◌, drop}
use Rattle.cube_space.specs.Radix.{are_digits}
use Rattle.cube_space.proofs.digits.are_digits.Given as goal

abbrev pub invariant-loop-i : goal.invariant-loop-i
invariant-loop-i l = are_digits l.sizes l.digits ≡ are_digits (drop l.i l.sizes) (drop l.i l.digits)
