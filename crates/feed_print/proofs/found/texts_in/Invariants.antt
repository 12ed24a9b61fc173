use Rattle.std.proofs.Common.{◌≡◌, ◌++◌, ◌||◌, drop, true}
use Rattle.std.specs.List.{list_all}
use Rattle.rule_printer.specs.Writable.{is_writable_feeder}
use Rattle.feed_print.specs.FoundText.{texts_in, has_unsaid}
use Rattle.feed_print.proofs.found.texts_in.Given as goal

-- those so far, and those of the feeders that are left
abbrev pub invariant-each : goal.invariant-each
invariant-each l = record {
  feeders : l.texts.feeders.items ++ texts_in l.space l.cube (drop l.one-index l.found) ≡ texts_in l.space l.cube l.found;
  unsaid : l.texts.unsaid || has_unsaid l.space l.cube (drop l.one-index l.found) ≡ has_unsaid l.space l.cube l.found;
  writable : list_all is_writable_feeder l.texts.feeders.items ≡ true;
}
