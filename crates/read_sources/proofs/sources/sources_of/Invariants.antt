-- The cubes so far are taken.
use Rattle.read_sources.specs.Gathering.{AreGathered, IsCubeTaken}
use Rattle.std.proofs.Common.{ℕ, ◌<◌}
use Rattle.read_sources.proofs.sources.sources_of.Given as goal

abbrev pub invariant-each : goal.invariant-each
invariant-each l = record {
  gathered : AreGathered l.model l.cube l.sources.items;
  taken : (c : ℕ) → c < l.cube → IsCubeTaken l.model l.sources.items c;
}
