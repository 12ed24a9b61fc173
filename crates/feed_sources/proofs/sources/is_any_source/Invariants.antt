-- The cell is in no area of the feeders so far.
use Rattle.std.proofs.Common.{◌-◌, length, take}
use Rattle.feed_sources.proofs.FeederFacts.{HasOne}
use Rattle.feed_sources.proofs.sources.is_any_source.Given as goal

abbrev pub invariant-each : goal.invariant-each
invariant-each l = HasOne l.model l.cell l.cube (take l.n l.feeders) → ⊥

abbrev pub decreases-each : goal.decreases-each
decreases-each l = length l.feeders - l.n
