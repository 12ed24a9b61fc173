use Rattle.std.proofs.Common.{◌≡◌, ◌*◌, ◌≤◌, drop, min}
use Rattle.cube_space.specs.Radix.{product}
use Rattle.view_query.proofs.Counts.{counts}
use Rattle.view_query.proofs.binding.line_count.Given as goal

abbrev pub invariant-loop-axis : goal.invariant-loop-axis
invariant-loop-axis l = record {
  fits : l.count ≤ 18446744073709551615;
  rest : min (l.count * product (counts (drop l.axis-index l.axes))) 18446744073709551615 ≡ min (product (counts l.axes)) 18446744073709551615;
}
