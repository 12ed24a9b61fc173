use Rattle.std.proofs.Common.{◌≡◌, map}
use Rattle.std.specs.List.{range_with_len}
use Rattle.rule_dense.specs.Inside.Depths.{with_depth}
use Rattle.rule_dense.proofs.depth.all_with_depth.Given as goal

abbrev pub invariant-loop-cell : goal.invariant-loop-cell
invariant-loop-cell l = l.cells.items ≡ map (with_depth l.model) (range_with_len 0 l.cell)
