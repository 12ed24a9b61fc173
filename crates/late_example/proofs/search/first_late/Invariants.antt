use Rattle.ref_order.specs.Known.{IsKnownOf}
use Rattle.late_example.specs.Inside.Narrowing.{IsNarrowed}
use Rattle.late_example.proofs.search.first_late.Given as goal

abbrev pub invariant-each : goal.invariant-each
invariant-each l = record {
  known : IsKnownOf l.model l.cube l.known;
  narrowed : IsNarrowed l.cells.model.now l.cells.cube l.cells.area.now l.sought l.dim l.narrow;
}
