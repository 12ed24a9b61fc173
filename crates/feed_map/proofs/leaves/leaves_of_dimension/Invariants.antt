-- Those so far are leaves of the dimension.
use Rattle.std.proofs.Common.{◌≡◌}
use Rattle.std.specs.List.{filter, range_with_len}
use Rattle.cube_space.specs.Cells.{is_leaf}
use Rattle.feed_map.proofs.leaves.leaves_of_dimension.Given as goal

abbrev pub invariant-each : goal.invariant-each
invariant-each l = l.leaves.items ≡ filter (is_leaf l.dimension) (range_with_len 0 l.element)
