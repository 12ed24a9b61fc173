use Rattle.std.proofs.Common.{◌≡◌, ℕ, ◌<◌, false}
use Rattle.feed_turn.specs.Leaves.{is_total_over}
use Rattle.feed_turn.proofs.over.least_total.Given as goal

abbrev pub invariant-each : goal.invariant-each
invariant-each l = (k : ℕ) → k < l.element → is_total_over l.dimension l.leaves k ≡ false
