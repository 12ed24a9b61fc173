use Rattle.std.proofs.Common.{◌≡◌, ◌<◌, fold, take}
use Rattle.feed_find.specs.Filed.{mark_with, slot_count}
use Rattle.feed_find.proofs.found_table.slot_of.Given as goal

abbrev pub invariant-each : goal.invariant-each
invariant-each l = record {
  mark : l.mark ≡ fold mark_with 0 (take l.k l.sets);
  low : l.mark < slot_count;
}
