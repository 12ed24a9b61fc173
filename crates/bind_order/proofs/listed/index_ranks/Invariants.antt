use Rattle.std.proofs.Common.{◌≡◌, map}
use Rattle.std.specs.List.{range_with_len}
use Rattle.bind_order.specs.Ranks.{index_rank}
use Rattle.bind_order.proofs.listed.index_ranks.Given as goal

abbrev pub invariant-loop-element : goal.invariant-loop-element
invariant-loop-element l = l.given.items ≡ map (index_rank l.dimension) (range_with_len 0 l.element)
