use Rattle.std.proofs.Common.{◌≡◌, true, take}
use Rattle.std.specs.List.{list_all}
use Rattle.feed_turn.specs.Leaves.{counts}
use Rattle.feed_turn.proofs.over.each_counts.Given as goal

abbrev pub invariant-each : goal.invariant-each
invariant-each l = list_all (counts l.dimension l.element) (take l.leaf-index l.leaves) ≡ true
