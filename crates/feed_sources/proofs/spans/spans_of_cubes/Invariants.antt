-- The cubes so far.
use Rattle.std.proofs.Common.{take}
use Rattle.std.specs.List.{AllZip}
use Rattle.feed_sources.specs.Inside.Tables.{AreSpansOf}
use Rattle.feed_sources.proofs.spans.spans_of_cubes.Given as goal

abbrev pub invariant-each : goal.invariant-each
invariant-each l = AllZip AreSpansOf (take l.cube l.model.rules) l.ends.items
