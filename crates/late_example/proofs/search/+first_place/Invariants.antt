use Rattle.std.proofs.Common.{◌-◌}
use Rattle.late_example.proofs.search.+first_place.Given as goal

abbrev pub decreases-first_place : goal.decreases-first_place
decreases-first_place l = l.high - l.low
