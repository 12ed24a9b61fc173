-- The dimensions so far.
use Rattle.std.proofs.Common.{take}
use Rattle.std.specs.List.{AllZip}
use Rattle.feed_sources.specs.Inside.Above.{IsAboveOf}
use Rattle.feed_sources.proofs.source_model.above_of.Given as goal

abbrev pub invariant-each : goal.invariant-each
invariant-each l = AllZip IsAboveOf (take l.dim l.model.space.dimensions) l.above.items
