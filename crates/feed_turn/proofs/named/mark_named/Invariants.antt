use Rattle.std.proofs.Common.{length, take}
use Rattle.feed_turn.proofs.Marked.{AreMarked}
use Rattle.feed_turn.proofs.named.mark_named.Given as goal

abbrev pub invariant-each : goal.invariant-each
invariant-each l = AreMarked (length l.fn.marks) l.to (take l.leaf-index l.leaves) l.marks
