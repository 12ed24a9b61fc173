use Rattle.std.proofs.Common.{◌≡◌, ◌-◌, length, slice_get}
use Rattle.ref_order.specs.Known.{IsKnownOf}
use Rattle.check_order.specs.Inside.Walk.{late_statements}
use Rattle.check_order.proofs.late.late_in_cube.Given as goal

abbrev pub invariant-each : goal.invariant-each
invariant-each l = record {
  first : slice_get (late_statements l.model l.cube l.statements l.n (length l.statements - l.n)) 0
      ≡ slice_get (late_statements l.model l.cube l.statements 0 (length l.statements)) 0;
  known : IsKnownOf l.model l.cube l.known;
}
