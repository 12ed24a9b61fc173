-- Nothing is a source by the feeders of the cubes so far.
use Rattle.std.proofs.Common.{◌+◌, ◌*◌, length, ◌<◌, ◌≤◌, ℕ}
use Rattle.std.specs.List.{Contains}
use Rattle.rule_model.specs.BoundModel.{rules_of}
use Rattle.feed_sources.specs.Feeders.{FeedsByOne}
use Rattle.feed_sources.proofs.StepFacts.{count_before}
use Rattle.feed_sources.proofs.fed_from.is_fed_from.Given as goal

abbrev pub invariant-each : goal.invariant-each
invariant-each g l = record {
  none : (x k : ℕ) → Contains (g.W.CellSet.cells l.live) x → k < l.cube
      → FeedsByOne l.model k (rules_of l.model k).feeders x l.cell → ⊥;
  steps : l.steps ≤ l.fn.steps;
  spent : l.fn.steps ≤ l.steps + count_before l.model l.cube * (1 + length (g.W.CellSet.cells l.live));
}
