use Rattle.std.proofs.Common.{subst, ap}
use Rattle.std.proofs.lemmas.List.{take_all}
use Rattle.cube_lex.specs.Written.{Spaces}
use Rattle.rule_printer.proofs.WrittenParts.{adds_item, one_passes}
use Rattle.rule_printer.specs.Spelled.{listed_spelled, entry_spelled}
use Rattle.rule_printer.specs.Writable.{is_writable_entry}
use Rattle.rule_printer.proofs.printing.write_entries.Goals as goal

pub write_entry-requires : goal.write_entry-requires
write_entry-requires c = one_passes is_writable_entry c.args.entries.now c.loop-index.index c.index-entries-index.result c.loop-index-test.true c.index-entries-index.is c.requires

pub loop-index-preserved : goal.loop-index-preserved
loop-index-preserved c = adds_item entry_spelled c.args.out.now.items c.loop-index.out.items c.write_separator.new.out.items c.write_entry.new.out.items c.args.entries.now c.loop-index.index c.index-entries-index.result c.loop-index-test.true c.index-entries-index.is
    c.loop-index.invariant c.in_ok-write_separator.ensures c.in_ok-write_entry.ensures

pub returns : goal.returns
returns c = subst (Spaces c.args.out.now.items c.loop-index.out.items) (ap (listed_spelled entry_spelled) (take_all c.loop-index.index c.args.entries.now c.loop-index-test.false)) c.loop-index.invariant
