-- The statements so far are taken.
use Rattle.ref_order.specs.Known.{IsKnownOf}
use Rattle.read_sources.specs.Gathering.{AreGathered, Stay}
use Rattle.read_sources.proofs.Greater.{AreTakenBefore}
use Rattle.read_sources.proofs.sources.take_cube.Given as goal

abbrev pub invariant-each : goal.invariant-each
invariant-each l = record {
  gathered : AreGathered l.model l.cube l.sources.items;
  stay : Stay l.fn.sources.items l.sources.items;
  taken : AreTakenBefore l.model l.cube l.sources.items l.n;
  known : IsKnownOf l.model l.cube l.known;
}
