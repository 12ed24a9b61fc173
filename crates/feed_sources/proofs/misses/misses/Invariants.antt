-- Each argument is tested by itself.
use Rattle.feed_sources.proofs.misses.misses.Given as goal

abbrev pub invariant-each : goal.invariant-each
invariant-each l = Unit {0}
