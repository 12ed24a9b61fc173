-- None of the elements so far is listed.
use Rattle.std.proofs.Common.{take}
use Rattle.feed_sources.specs.Inside.Above.{Meet}
use Rattle.feed_sources.proofs.source.is_one_listed.Given as goal

abbrev pub invariant-each : goal.invariant-each
invariant-each l = Meet (take l.place l.elements) l.listed → ⊥
