use Rattle.std.proofs.Common.{sym, subst}
use Rattle.ref_order.specs.Reads.{precedent_of}
use Rattle.late_example.specs.Inside.Shown.{IsFound}
use Rattle.late_example.proofs.Parts.{named-found}
use Rattle.late_example.proofs.shown.late_read.Goals as goal

pub returns-in-Cell : goal.returns-in-Cell
returns-in-Cell c =
    subst (λ x. IsFound c.args.model.now c.args.cell c.args.sought.position (precedent_of x) c.late_only.result) (sym c.in-Cell.is)
    (named-found c.args.model.now c.args.cell c.args.sought.position c.in-Cell.reference.now c.target.result c.late_only.result c.target.ensures.value c.target.ensures.cell c.late_only.ensures)
