use Rattle.std.proofs.Common.{◌≡◌, take}
use Rattle.late_example.proofs.narrowing.sets_of.Given as goal

abbrev pub invariant-each : goal.invariant-each
invariant-each l = l.copies.items ≡ take l.place l.sets
