use Rattle.std.proofs.Common.{◌≡◌}
use Rattle.late_example.specs.Inside.Narrowing.{places_of}
use Rattle.late_example.proofs.narrowing.listed.Given as goal

abbrev pub invariant-each : goal.invariant-each
invariant-each l = l.listed.items ≡ places_of l.set l.from l.place
