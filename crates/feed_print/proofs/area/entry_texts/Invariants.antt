use Rattle.std.proofs.Common.{◌≡◌, ◌++◌, drop, true, option_map}
use Rattle.std.specs.List.{list_all}
use Rattle.cube_space.specs.Layout.{axes}
use Rattle.rule_printer.specs.Writable.{is_writable_entry}
use Rattle.feed_print.specs.FeederTexts.{entry_texts}
use Rattle.feed_print.proofs.area.entry_texts.Given as goal

-- the entries so far, and those of the dimensions that are left
abbrev pub invariant-each : goal.invariant-each
invariant-each l = record {
  text : option_map (λ more. l.entries.items ++ more) (entry_texts (drop l.place (axes l.space l.cube)) (drop l.place l.area.sets))
      ≡ entry_texts (axes l.space l.cube) l.area.sets;
  writable : list_all is_writable_entry l.entries.items ≡ true;
}
