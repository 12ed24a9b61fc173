use Rattle.std.proofs.Common.{OnOk, subst}
use Rattle.dim_text.proofs.PrintedBack.{printed_told}
use Rattle.dim_text.specs.Printed.{IsPrinted}
use Rattle.dim_text.proofs.printing.print.Goals as goal

pub returns-clause-written : goal.returns-clause-written
returns-clause-written c = subst (λ d. OnOk c.extend_from_slice.result (IsPrinted d c.args.out.now.items c.extend_from_slice.new.self.items)) c.dimension-dimension.ensures.dimension
    (printed_told c.extend_from_slice.result c.dimension-dimension.result.now c.len-len.ensures.valid c.args.out.now.items c.extend_from_slice.new.self.items c.write_block.new.out.items
    (rw c.new-block.ensures.items at c.in_ok-write_block.ensures) (rw c.deref.ensures.value at c.extend_from_slice.ensures.items))
