use Rattle.std.proofs.Common.{take}
use Rattle.feed_turn.specs.Inside.Slots.{IsPut}
use Rattle.feed_turn.proofs.inverse.put_each.Given as goal

abbrev pub invariant-each : goal.invariant-each
invariant-each l = IsPut (take l.pair-index l.pairs) l.element l.fn.slots l.slots
