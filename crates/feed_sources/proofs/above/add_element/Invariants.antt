-- The rows of the leaves so far have the element.
use Rattle.std.proofs.Common.{take}
use Rattle.feed_sources.specs.Inside.Above.{AreAdded}
use Rattle.feed_sources.proofs.above.add_element.Given as goal

abbrev pub invariant-each : goal.invariant-each
invariant-each l = AreAdded l.fn.rows.items l.element (take l.place l.pairs) l.rows.items
