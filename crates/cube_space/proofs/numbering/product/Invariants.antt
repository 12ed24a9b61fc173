use Rattle.std.proofs.Common.{◌≡◌, ◌*◌, ◌≤◌, drop, min}
use Rattle.cube_space.specs.Radix.{product}
use Rattle.cube_space.proofs.numbering.product.Given as goal

abbrev pub invariant-loop-size : goal.invariant-loop-size
invariant-loop-size l = record {
  fits : l.product ≤ 18446744073709551615;
  rest : min (l.product * product (drop l.size-index l.sizes)) 18446744073709551615 ≡ min (product l.sizes) 18446744073709551615;
}
