use Rattle.std.proofs.Common.{◌≡◌, ◌≤◌, length, filter}
use Rattle.std.specs.List.{range_with_len}
use Rattle.cube_space.specs.Cells.{is_leaf}
use Rattle.feed_check.proofs.size.leaf_elements.Given as goal

abbrev pub invariant-each : goal.invariant-each
invariant-each l = record {
  count : l.count ≡ length (filter (is_leaf l.dimension) (range_with_len 0 l.element));
  low : l.count ≤ l.element;
}
