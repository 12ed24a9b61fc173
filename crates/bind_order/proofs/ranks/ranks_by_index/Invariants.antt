use Rattle.std.proofs.Common.{◌≡◌, map}
use Rattle.std.specs.List.{range_with_len}
use Rattle.bind_order.specs.Ranks.{greatest_leaf, index_ranks}
use Rattle.bind_order.proofs.ranks.ranks_by_index.Given as goal

abbrev pub invariant-loop-element : goal.invariant-loop-element
invariant-loop-element l = l.ranks.items ≡ map (greatest_leaf l.dimension (index_ranks l.dimension)) (range_with_len 0 l.element)
