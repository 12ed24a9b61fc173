use Rattle.std.proofs.Common.{◌≡◌, true, false, not, ◌||◌, get_or}
use Rattle.std.specs.List.{list_all, range_with_len}
use Rattle.cube_space.specs.Cells.{is_leaf}
use Rattle.feed_turn.proofs.named.has_each_leaf.Given as goal

abbrev pub invariant-each : goal.invariant-each
invariant-each l = list_all (λ e. not (is_leaf l.dimension e) || get_or l.marks e false) (range_with_len 0 l.element) ≡ true
