use Rattle.std.proofs.Common.{◌≡◌, filter}
use Rattle.std.specs.List.{range_with_len}
use Rattle.cube_space.specs.Cells.{is_leaf}
use Rattle.feed_turn.proofs.leaves.all_leaves.Given as goal

abbrev pub invariant-each : goal.invariant-each
invariant-each l = l.leaves.items ≡ filter (is_leaf l.dimension) (range_with_len 0 l.element)
