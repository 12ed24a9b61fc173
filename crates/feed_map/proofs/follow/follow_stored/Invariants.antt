-- What the stored cells below `from` feed.
use Rattle.std.proofs.Common.{◌≤◌, ◌-◌, ◌^◌}
use Rattle.cell_store.specs.Entries.{cells_of}
use Rattle.feed_map.specs.Inside.Gains.{Gains}
use Rattle.feed_map.specs.Inside.Follows.{AreOpened, FeedsBelow}
use Rattle.feed_map.proofs.follow.follow_stored.Given as goal

abbrev pub invariant-each : goal.invariant-each
invariant-each l = record {
  gains : Gains (FeedsBelow l.model (cells_of l.store) l.from) l.fn.reached.growth l.reached.growth;
  totals : AreOpened l.model l.reached.totals l.reached.growth;
  place : l.from ≤ 2 ^ 62;
}

abbrev pub decreases-each : goal.decreases-each
decreases-each l = 2 ^ 62 - l.from
