-- What came are ends of chains, and what was opened up to `place` was followed.
use Rattle.std.proofs.Common.{◌≤◌, ◌+◌, ◌-◌, length}
use Rattle.feed_map.specs.FedCells.{most_fed}
use Rattle.feed_map.specs.Inside.Gains.{Grows, GainsOnly}
use Rattle.feed_map.specs.Inside.Follows.{AreOpened, EndsChain, AreFollowed}
use Rattle.feed_map.proofs.follow.follow_opened.Given as goal

abbrev pub invariant-each : goal.invariant-each
invariant-each l = record {
  grows : Grows l.fn.reached.growth l.reached.growth;
  only : GainsOnly (EndsChain l.model l.fn.reached.growth) l.fn.reached.growth l.reached.growth;
  followed : AreFollowed l.model l.reached.growth l.place;
  totals : AreOpened l.model l.reached.totals l.reached.growth;
  within : l.place ≤ length l.reached.growth.opened.items;
}

-- no more are opened than were already and than may be known
abbrev pub decreases-each : goal.decreases-each
decreases-each l = (length l.fn.reached.growth.opened.items + most_fed) - l.place
