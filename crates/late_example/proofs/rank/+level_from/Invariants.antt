use Rattle.std.proofs.Common.{◌-◌, length}
use Rattle.late_example.proofs.rank.+level_from.Given as goal

abbrev pub decreases-level_from : goal.decreases-level_from
decreases-level_from l = length l.elements.now - l.from
