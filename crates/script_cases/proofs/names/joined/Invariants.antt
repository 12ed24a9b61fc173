use Rattle.std.proofs.Common.{◌≡◌, drop}
use Rattle.script_cases.specs.Names.{joined}
use Rattle.script_cases.proofs.names.joined.Given as goal

abbrev pub invariant-each : goal.invariant-each
invariant-each l = joined l.names.items (drop l.other-index l.others) ≡ joined l.first l.others
