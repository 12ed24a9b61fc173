use Rattle.std.proofs.Common.{◌≡◌, map, drop, length}
use Rattle.std.specs.List.{range_with_len}
use Rattle.bind_order.specs.Ranks.{rank_of, all_of}
use Rattle.bind_order.proofs.ListFacts.{behind}
use Rattle.bind_order.proofs.ranks.ranks_of.Given as goal

abbrev pub invariant-loop-element : goal.invariant-loop-element
invariant-loop-element l =
    behind l.ranks.items (all_of (map (rank_of l.dimension l.given) (drop l.element (range_with_len 0 (length l.dimension.elements)))))
    ≡ all_of (map (rank_of l.dimension l.given) (range_with_len 0 (length l.dimension.elements)))
