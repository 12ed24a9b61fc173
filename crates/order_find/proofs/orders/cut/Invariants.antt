use Rattle.std.proofs.Common.{◌≡◌, map}
use Rattle.std.specs.Prelude.{slice_index}
use Rattle.std.specs.List.{range_with_len}
use Rattle.order_find.specs.Numbers.{number_of, place_at}
use Rattle.order_find.proofs.orders.cut.Given as goal

abbrev pub invariant-loop-element : goal.invariant-loop-element
invariant-loop-element l =
    l.own.items ≡ map (λ element. slice_index l.ranks (number_of l.graph.numbering (place_at l.cube l.kind element))) (range_with_len 0 l.element)
