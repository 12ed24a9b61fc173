-- What the part has read so far is taken.
use Rattle.std.proofs.Common.{◌≡◌, ℕ, ◌<◌, Some}
use Rattle.std.specs.Prelude.{slice_get}
use Rattle.rule_laws.specs.Meaning.{Precedent}
use Rattle.ref_order.specs.Known.{IsKnown}
use Rattle.read_sources.specs.Gathering.{reads_for, AreGathered, Stay, IsTaken}
use Rattle.read_sources.proofs.sources.take_part.Given as goal

abbrev pub invariant-each : goal.invariant-each
invariant-each l = record {
  gathered : AreGathered l.part.model.now l.part.cube l.sources.items;
  stay : Stay l.fn.sources.items l.sources.items;
  taken : (k : ℕ) (p : Precedent) → k < l.at → slice_get (reads_for l.part.statement.now l.part.kind) k ≡ Some p
      → IsTaken l.part.model.now l.sources.items l.part.cube l.part.statement.now l.part.kind p;
  known : IsKnown l.part.model.now l.part.cube l.part.statement.now.area l.known;
}
