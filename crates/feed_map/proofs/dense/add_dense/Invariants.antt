-- Those of the cubes so far.
use Rattle.feed_map.specs.Inside.Gains.{Gains}
use Rattle.feed_map.specs.Inside.Follows.{IsDenseBelow}
use Rattle.feed_map.proofs.dense.add_dense.Given as goal

abbrev pub invariant-each : goal.invariant-each
invariant-each l = Gains (IsDenseBelow l.model l.cube) l.fn.growth l.growth
