-- What the feeders so far feed was added.
use Rattle.std.proofs.Common.{take}
use Rattle.feed_sources.specs.Feeders.{FeedsByOne}
use Rattle.feed_chains.specs.Inside.LedCells.{Adds}
use Rattle.feed_chains.proofs.led.follow.Given as goal

abbrev pub invariant-each : goal.invariant-each
invariant-each l = Adds (FeedsByOne l.model l.cube (take l.n l.feeders) l.cell) l.fn.led l.led
