-- What the feeders so far feed.
use Rattle.std.proofs.Common.{◌-◌, length, take}
use Rattle.feed_map.specs.Inside.Gains.{Gains}
use Rattle.feed_map.specs.Inside.Follows.{AreOpened}
use Rattle.feed_sources.specs.Feeders.{FeedsByOne}
use Rattle.feed_map.proofs.follow.follow.Given as goal

abbrev pub invariant-each : goal.invariant-each
invariant-each l = record {
  gains : Gains (FeedsByOne l.model l.cube (take l.n l.feeders) l.cell) l.fn.reached.growth l.reached.growth;
  totals : AreOpened l.model l.reached.totals l.reached.growth;
}

abbrev pub decreases-each : goal.decreases-each
decreases-each l = length l.feeders - l.n
