-- Those of the cells so far.
use Rattle.std.proofs.Common.{take}
use Rattle.feed_map.specs.Inside.Gains.{AreFresh}
use Rattle.feed_map.proofs.growth.unknown_cells.Given as goal

abbrev pub invariant-each : goal.invariant-each
invariant-each l = AreFresh l.known (take l.place l.found) l.fresh.items
