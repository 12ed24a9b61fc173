use Rattle.std.proofs.Common.{◌-◌}
use Rattle.rule_model.specs.Order.{most_positions}
use Rattle.late_example.proofs.position.+late_from.Given as goal

abbrev pub decreases-late_from : goal.decreases-late_from
decreases-late_from l = most_positions - l.place
