-- Each dimension so far has one.
use Rattle.arrow_laws.specs.ByDimension.{HasEach}
use Rattle.ref_order.specs.Known.{IsKnown}
use Rattle.read_sources.specs.Ways.{reads_from}
use Rattle.read_sources.proofs.given.has_each.Given as goal

abbrev pub invariant-each : goal.invariant-each
invariant-each l = record {
  so : HasEach (reads_from l.model l.source) l.dim;
  known : IsKnown l.model l.source.cube l.source.area.now l.known;
}
