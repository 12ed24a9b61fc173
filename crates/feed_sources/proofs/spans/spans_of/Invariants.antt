-- The spans of the last feeders are known.
use Rattle.std.proofs.Common.{◌≡◌, ℕ, ◌+◌, ◌<◌, ◌≤◌, length, get_or}
use Rattle.feed_sources.specs.Spans.{IsSpan}
use Rattle.feed_sources.proofs.spans.spans_of.Given as goal

abbrev pub invariant-each : goal.invariant-each
invariant-each l = record {
  whole : length l.ends.items ≡ length l.feeders;
  later : (place : ℕ) → length l.feeders ≤ place + l.behind → place < length l.feeders → IsSpan l.feeders place (get_or l.ends.items place 0);
}
