-- What the cells so far feed.
use Rattle.std.proofs.Common.{take}
use Rattle.feed_map.specs.Inside.Gains.{Gains}
use Rattle.feed_map.specs.Inside.Follows.{AreOpened, FeedsFrom}
use Rattle.feed_map.proofs.follow.follow_cells.Given as goal

abbrev pub invariant-each : goal.invariant-each
invariant-each l = record {
  gains : Gains (FeedsFrom l.model (take l.place l.cells)) l.fn.reached.growth l.reached.growth;
  totals : AreOpened l.model l.reached.totals l.reached.growth;
}
