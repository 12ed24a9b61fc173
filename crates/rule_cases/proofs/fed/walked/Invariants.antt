use Rattle.std.proofs.Common.{◌≡◌}
use Rattle.rule_cases.proofs.fed.walked.Given as goal

abbrev pub invariant-each : goal.invariant-each
invariant-each l = l.walk.cell ≡ l.cell
