use Rattle.rule_printer.proofs.PrintedText.{writable_rules, printed_told}
use Rattle.rule_printer.proofs.printing.print.Goals as goal

pub write_rules-requires : goal.write_rules-requires
write_rules-requires c = writable_rules c.args.text.now c.requires

pub returns-clause-written : goal.returns-clause-written
returns-clause-written c =
    printed_told c.extend_from_slice.result c.args.text.now c.requires c.args.out.now.items c.extend_from_slice.new.self.items c.write_rules.new.out.items
    (rw c.new-rules.ensures.items at c.in_ok-write_rules.ensures) (rw c.deref.ensures.value at c.extend_from_slice.ensures.items)
