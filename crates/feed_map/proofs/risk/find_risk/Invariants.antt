-- What was opened up to `place` is sure or at risk, and what is at risk was followed.
use Rattle.std.proofs.Common.{◌≤◌, ◌+◌, ◌-◌, length}
use Rattle.feed_map.specs.FedCells.{most_fed}
use Rattle.feed_map.specs.Inside.Gains.{Grows}
use Rattle.feed_map.specs.Inside.Follows.{AreOpened}
use Rattle.feed_map.specs.Inside.Risks.{AreOutside}
use Rattle.feed_map.proofs.RiskFacts.{AreLooked}
use Rattle.feed_map.proofs.risk.find_risk.Given as goal

abbrev pub invariant-each : goal.invariant-each
invariant-each l = record {
  grows : Grows l.fn.reached.growth l.reached.growth;
  looked : AreLooked l.model l.base l.store l.reached.growth l.risk.items l.place;
  outside : AreOutside l.model l.base l.store l.reached.growth l.risk.items;
  totals : AreOpened l.model l.reached.totals l.reached.growth;
  within : l.place ≤ length l.reached.growth.opened.items;
}

-- no more are opened than were already and than may be known
abbrev pub decreases-each : goal.decreases-each
decreases-each l = (length l.fn.reached.growth.opened.items + most_fed) - l.place
