use Rattle.std.proofs.Common.{◌≡◌, drop, length}
use Rattle.feed_turn.specs.Shift.{shift_from}
use Rattle.feed_turn.proofs.shift.shift_of.Given as goal

abbrev pub invariant-each : goal.invariant-each
invariant-each l = shift_from (length l.back) 0 l.back ≡ shift_from (length l.back) l.place (drop l.place l.back)
