use Rattle.model_text.proofs.PrintedBack.{printed_told}
use Rattle.model_text.proofs.printing.print.Goals as goal

pub returns-clause-written : goal.returns-clause-written
returns-clause-written c =
    printed_told c.extend_from_slice.result c.args.text.now c.version-version.ensures.valid c.args.out.now.items c.extend_from_slice.new.self.items c.write_model.new.out.items
    (rw c.new-bytes.ensures.items at c.in_ok-write_model.ensures) (rw c.deref.ensures.value at c.extend_from_slice.ensures.items)
