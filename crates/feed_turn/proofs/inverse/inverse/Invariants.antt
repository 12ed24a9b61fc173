use Rattle.std.proofs.Common.{take}
use Rattle.feed_turn.proofs.Led.{AreLed}
use Rattle.feed_turn.proofs.inverse.inverse.Given as goal

abbrev pub invariant-each : goal.invariant-each
invariant-each l = AreLed l.dimension l.to (take l.leaf-index l.leaves) l.slots.items
