use Rattle.std.proofs.Common.{◌≡◌, ◌≤◌, ◌-◌, take}
use Rattle.cube_space.specs.Radix.{product}
use Rattle.rule_model.specs.Order.{most_height, most_positions, position_sizes}
use Rattle.check_order.specs.Inside.Heights.{high_from}
use Rattle.check_order.proofs.height.too_high.Given as goal

abbrev pub invariant-each : goal.invariant-each
invariant-each l = record {
  height : l.height ≡ product (take l.place (position_sizes l.model));
  low : l.height ≤ most_height;
  rest : high_from (position_sizes l.model) l.place (most_positions - l.place) ≡ high_from (position_sizes l.model) 0 most_positions;
}
