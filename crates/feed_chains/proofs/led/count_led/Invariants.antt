-- What the cell and those so far feed was added.
use Rattle.std.proofs.Common.{ℕ, ◌-◌, ◌≤◌, length, take}
use Rattle.std.specs.List.{Contains}
use Rattle.rule_laws.specs.Feeding.{Feeds}
use Rattle.rule_model.specs.System.{system_of}
use Rattle.feed_chains.specs.Inside.LedCells.{most_led}
use Rattle.feed_chains.proofs.LedFacts.{AreFollowed}
use Rattle.feed_chains.proofs.led.count_led.Given as goal

abbrev pub invariant-each : goal.invariant-each
invariant-each l = record {
  first : (c : ℕ) → Feeds (system_of l.model) l.cell c → Contains l.led c;
  followed : AreFollowed (system_of l.model) (take l.place l.led) l.led;
  within : l.place ≤ length l.led;
}

abbrev pub decreases-each : goal.decreases-each
decreases-each l = most_led - l.place
