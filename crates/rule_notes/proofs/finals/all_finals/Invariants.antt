-- Those of the statements so far.
use Rattle.std.proofs.Common.{◌≡◌, map, take}
use Rattle.rule_notes.specs.Inside.Finals.{finals_of}
use Rattle.rule_notes.proofs.finals.all_finals.Given as goal

abbrev pub invariant-each : goal.invariant-each
invariant-each l = l.finals.items ≡ map finals_of (take l.place l.statements)
