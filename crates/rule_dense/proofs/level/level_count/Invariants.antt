use Rattle.std.proofs.Common.{◌≡◌, ◌≤◌, map}
use Rattle.std.specs.List.{range_with_len}
use Rattle.rule_model.specs.Order.{greatest, cell_level}
use Rattle.rule_dense.specs.Inside.Depths.{most_levels}
use Rattle.rule_dense.proofs.level.level_count.Given as goal

abbrev pub invariant-loop-cell : goal.invariant-loop-cell
invariant-loop-cell l = record {
  so_far : l.greatest ≡ greatest (map (cell_level l.space) (range_with_len 0 l.cell));
  most : l.greatest ≤ most_levels;
}
