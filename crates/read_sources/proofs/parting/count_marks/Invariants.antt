-- There is a count for each mark.
use Rattle.std.proofs.Common.{◌≡◌, length}
use Rattle.read_sources.proofs.parting.count_marks.Given as goal

abbrev pub invariant-each : goal.invariant-each
invariant-each l = length l.counts.items ≡ 4096
