use Rattle.std.proofs.Common.{◌≡◌, ◌&&◌, drop, length}
use Rattle.std.specs.List.{range_with_len, list_any}
use Rattle.bind_order.specs.Inside.Breaks.{breaks_at, is_of_kind, has_leaf}
use Rattle.bind_order.proofs.leaf_cells.has_pair.Given as goal

abbrev pub invariant-loop-element : goal.invariant-loop-element
invariant-loop-element l =
    list_any (λ x. is_of_kind l.kind l.dimension x && has_leaf (breaks_at l.front l.last l.place) l.dimension x) (drop l.element (range_with_len 0 (length l.dimension.elements)))
    ≡ list_any (λ x. is_of_kind l.kind l.dimension x && has_leaf (breaks_at l.front l.last l.place) l.dimension x) (range_with_len 0 (length l.dimension.elements))
