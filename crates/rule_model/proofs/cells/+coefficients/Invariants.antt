use Rattle.std.proofs.Common.{length, ◌-◌}
use Rattle.rule_model.proofs.cells.+coefficients.Given as goal

abbrev pub decreases-coefficients : goal.decreases-coefficients
decreases-coefficients l = length l.dims.now - l.from
