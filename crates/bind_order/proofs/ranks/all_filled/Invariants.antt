use Rattle.std.proofs.Common.{◌≡◌, map}
use Rattle.std.specs.List.{range_with_len}
use Rattle.bind_order.specs.Ranks.{filled_rank}
use Rattle.bind_order.proofs.ranks.all_filled.Given as goal

abbrev pub invariant-loop-element : goal.invariant-loop-element
invariant-loop-element l = l.ranks.items ≡ map (filled_rank l.dimension l.given) (range_with_len 0 l.element)
