-- The cubes so far have none.
use Rattle.std.proofs.Common.{◌≡◌, ℕ, ◌<◌, []}
use Rattle.rule_model.specs.BoundModel.{rules_of}
use Rattle.feed_map.proofs.follow.has_feeders.Given as goal

abbrev pub invariant-each : goal.invariant-each
invariant-each l = (k : ℕ) → k < l.cube → (rules_of l.model k).feeders ≡ []
