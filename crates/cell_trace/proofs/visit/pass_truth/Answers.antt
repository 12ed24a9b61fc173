use Rattle.std.proofs.Common.{◌≡◌, ◌++◌, sym, ◌∙◌, subst, OnOk}
use Rattle.cell_trace.specs.Visits.{passed}
use Rattle.cell_trace.proofs.VisitFacts.{test_references}
use Rattle.cell_trace.proofs.visit.pass_truth.Goals as goal

pub returns : goal.returns
returns c given =
    subst (λ n. OnOk c.pass.result (c.pass.new.items.items ≡ c.args.items.now.items ++ passed n))
    (c.truth_references.ensures ∙ sym (test_references given c.args.truth.now)) c.pass.ensures
