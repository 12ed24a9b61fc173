-- Nothing is a source by the feeders so far.
use Rattle.std.proofs.Common.{◌+◌, ◌*◌, length, ◌≤◌, ℕ, take}
use Rattle.std.specs.List.{Contains}
use Rattle.feed_sources.specs.Feeders.{FeedsByOne}
use Rattle.feed_sources.proofs.fed_from.is_fed_from_cube.Given as goal

abbrev pub invariant-each : goal.invariant-each
invariant-each g l = record {
  none : (x : ℕ) → Contains (g.W.CellSet.cells l.live) x → FeedsByOne l.model l.cube (take l.n l.feeders) x l.cell → ⊥;
  steps : l.steps ≤ l.fn.steps;
  spent : l.fn.steps ≤ l.steps + l.n * (1 + length (g.W.CellSet.cells l.live));
}
