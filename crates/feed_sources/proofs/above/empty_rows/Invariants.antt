-- Nothing is in the rows so far.
use Rattle.std.proofs.Common.{◌≡◌, ◌≤◌, ◌-◌, ℕ, [], length}
use Rattle.std.specs.Prelude.{slice_index_or}
use Rattle.feed_sources.proofs.above.empty_rows.Given as goal

abbrev pub invariant-each : goal.invariant-each
invariant-each l = record {
  none : (leaf : ℕ) → slice_index_or l.rows.items leaf [] ≡ [];
  few : length l.rows.items ≤ l.count;
}

abbrev pub decreases-each : goal.decreases-each
decreases-each l = l.count - length l.rows.items
