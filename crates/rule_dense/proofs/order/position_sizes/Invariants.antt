use Rattle.std.proofs.Common.{◌≡◌, map}
use Rattle.std.specs.List.{range_with_len}
use Rattle.rule_model.specs.Order.{position_size}
use Rattle.rule_dense.proofs.order.position_sizes.Given as goal

abbrev pub invariant-loop-place : goal.invariant-loop-place
invariant-loop-place l = l.sizes.items ≡ map (position_size l.model) (range_with_len 0 l.place)
