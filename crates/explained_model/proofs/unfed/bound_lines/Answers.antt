use Rattle.std.proofs.Common.{subst, sym}
use Rattle.late_example.proofs.Examples.{ok-map}
use Rattle.explained_model.specs.Unfed.{AreBoundLines, AreFeederLines}
use Rattle.explained_model.proofs.unfed.bound_lines.Goals as goal

pub returns-in_ok-fed_model-in-Some : goal.returns-in_ok-fed_model-in-Some
returns-in_ok-fed_model-in-Some c =
    ok-map c.feeder_lines-in-Some.result _ _ c.feeder_lines-in-Some.ensures
    (λ lines is. subst (λ bound. AreBoundLines bound lines.items) (sym c.in-Some.is)
    (subst (λ model. AreFeederLines model lines.items) c.in_ok-fed_model-in-Some.ensures is))
