-- What the dimensions so far give.
use Rattle.ref_order.specs.Known.{IsKnown}
use Rattle.read_sources.specs.Ways.{choice, asked}
use Rattle.read_sources.specs.Sources.{IsGiven}
use Rattle.read_sources.specs.Giving.{below}
use Rattle.read_sources.proofs.given.given_beside.Given as goal

abbrev pub invariant-each : goal.invariant-each
invariant-each l = record {
  so : IsGiven (below (choice l.model l.source) l.dim) l.beside.one l.beside.other (asked l.source) l.given;
  known : IsKnown l.model l.source.cube l.source.area.now l.known;
}
