use Rattle.std.proofs.Common.{◌≡◌, filter, take}
use Rattle.cube_space.specs.Cells.{is_leaf}
use Rattle.feed_turn.proofs.leaves.leaves_among.Given as goal

abbrev pub invariant-each : goal.invariant-each
invariant-each l = l.leaves.items ≡ filter (is_leaf l.dimension) (take l.element-index l.elements)
