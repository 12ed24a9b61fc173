use Rattle.std.proofs.Common.{◌≡◌, length}
use Rattle.feed_find.proofs.found_table.no_slots.Given as goal

abbrev pub invariant-each : goal.invariant-each
invariant-each l = length l.slots.items ≡ l.count
