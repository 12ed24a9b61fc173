use Rattle.std.proofs.Common.{◌≡◌, ◌++◌, sym, ◌∙◌, subst, OnOk}
use Rattle.cell_trace.specs.Visits.{passed}
use Rattle.cell_trace.proofs.VisitFacts.{visit_references}
use Rattle.cell_trace.proofs.visit.pass_formula.Goals as goal

pub returns : goal.returns
returns c given =
    subst (λ n. OnOk c.pass.result (c.pass.new.items.items ≡ c.args.items.now.items ++ passed n))
    (c.references.ensures ∙ sym (visit_references given c.args.formula.now)) c.pass.ensures
