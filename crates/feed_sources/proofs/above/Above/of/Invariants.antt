-- The rows have the elements so far.
use Rattle.feed_sources.specs.Inside.Above.{AreAbove}
use Rattle.feed_sources.proofs.above.Above.of.Given as goal

abbrev pub invariant-each : goal.invariant-each
invariant-each l = AreAbove l.weights l.element l.rows.items
