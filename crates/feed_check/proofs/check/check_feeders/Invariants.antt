use Rattle.std.proofs.Common.{ℕ, ◌<◌}
use Rattle.feed_check.specs.Verdict.{IsSound}
use Rattle.feed_check.proofs.check.check_feeders.Given as goal

abbrev pub invariant-each : goal.invariant-each
invariant-each l = (k : ℕ) → k < l.cube → IsSound l.model k
