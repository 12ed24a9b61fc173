use Rattle.std.proofs.Common.{◌-◌}
use Rattle.rule_model.specs.Order.{most_positions}
use Rattle.ref_order.proofs.earlier.+earlier_from.Given as goal

abbrev pub decreases-earlier_from : goal.decreases-earlier_from
decreases-earlier_from l = most_positions - l.place
