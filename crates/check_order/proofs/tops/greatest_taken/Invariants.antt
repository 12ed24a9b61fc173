use Rattle.std.proofs.Common.{◌≡◌, ◌-◌, max, length, map}
use Rattle.std.specs.List.{range_with_len}
use Rattle.rule_model.specs.Order.{greatest}
use Rattle.check_order.specs.Inside.Tops.{taken_rank, greatest_taken}
use Rattle.check_order.proofs.tops.greatest_taken.Given as goal

abbrev pub invariant-each : goal.invariant-each
invariant-each l =
    max (greatest (map (taken_rank l.which l.dimension l.ranks) (range_with_len l.element (length l.dimension.elements - l.element)))) l.most
    ≡ greatest_taken l.which l.dimension l.ranks
