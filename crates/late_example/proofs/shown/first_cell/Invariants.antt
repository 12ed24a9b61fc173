use Rattle.std.proofs.Common.{◌≡◌, take, map}
use Rattle.late_example.specs.Inside.Narrowing.{first_of}
use Rattle.late_example.proofs.shown.first_cell.Given as goal

abbrev pub invariant-each : goal.invariant-each
invariant-each l = l.elements.items ≡ map first_of (take l.place l.sets)
