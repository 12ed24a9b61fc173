use Rattle.std.proofs.Common.{◌≡◌, map}
use Rattle.std.specs.List.{range_with_len}
use Rattle.arrow_laws.specs.Ranked.{order_by}
use Rattle.order_find.specs.Cut.{all_ranks}
use Rattle.order_find.proofs.orders.orders.Given as goal

abbrev pub invariant-loop-cube : goal.invariant-loop-cube
invariant-loop-cube l =
    l.orders.items ≡ map (order_by l.graph.model (all_ranks l.graph l.ranks)) (range_with_len 0 l.cube)
