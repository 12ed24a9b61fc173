use Rattle.std.proofs.Common.{◌≡◌, ◌<◌, ◌^◌, map}
use Rattle.std.specs.List.{range_with_len}
use Rattle.rule_model.specs.Order.{greatest, number_at}
use Rattle.rule_dense.proofs.order.position_size.Given as goal

abbrev pub invariant-loop-cell : goal.invariant-loop-cell
invariant-loop-cell l = record {
  so_far : l.greatest ≡ greatest (map (number_at l.model l.place) (range_with_len 0 l.cell));
  fits : l.greatest < 2 ^ 32;
}
