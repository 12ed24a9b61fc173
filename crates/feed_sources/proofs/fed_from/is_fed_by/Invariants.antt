-- No cell so far is a source.
use Rattle.std.proofs.Common.{◌<◌, ◌≤◌, ◌-◌, ◌^◌, ℕ, ◌+◌}
use Rattle.std.specs.List.{Contains}
use Rattle.rule_laws.specs.Feeding.{FeedsBy}
use Rattle.rule_model.specs.System.{system_of, feed_of}
use Rattle.feed_sources.proofs.WalkFacts.{count_below}
use Rattle.feed_sources.proofs.fed_from.is_fed_by.Given as goal

abbrev pub invariant-jumps : goal.invariant-jumps
invariant-jumps g l = record {
  begun : l.first ≤ l.from;
  none : (x : ℕ) → Contains (g.W.CellSet.cells l.live) x → x < l.from
      → FeedsBy (system_of l.model) (feed_of l.model.space l.cube l.feeder) x l.cell → ⊥;
  steps : l.steps ≤ l.fn.steps;
  spent : l.fn.steps ≤ l.steps + (1 + count_below l.from (g.W.CellSet.cells l.live));
}

abbrev pub decreases-jumps : goal.decreases-jumps
decreases-jumps g l = 2 ^ 64 - l.from
