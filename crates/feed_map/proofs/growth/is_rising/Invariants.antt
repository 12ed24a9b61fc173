-- The cells so far rise.
use Rattle.std.proofs.Common.{ℕ, ◌+◌, ◌<◌, get_or}
use Rattle.feed_map.proofs.growth.is_rising.Given as goal

abbrev pub invariant-each : goal.invariant-each
invariant-each l = record {
  some : 0 < l.place;
  rising : (k : ℕ) → k + 1 < l.place → get_or l.cells k 0 < get_or l.cells (k + 1) 0;
}
