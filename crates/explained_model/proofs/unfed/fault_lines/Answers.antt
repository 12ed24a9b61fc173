use Rattle.std.proofs.Common.{◌<◌, length, subst, sym, Some}
use Rattle.feed_check.specs.Verdict.{IsFirstFault}
use Rattle.late_example.proofs.Examples.{ok-map}
use Rattle.explained_model.specs.Unfed.{AreFaultLines}
use Rattle.explained_model.proofs.unfed.fault_lines.Goals as goal

pub operand_lines-requires : goal.operand_lines-requires
operand_lines-requires c =
    let it = subst (IsFirstFault c.args.model.now) c.in-NotFed.is c.requires in
    subst (λ cube. cube < length c.args.model.now.space.cubes) (sym it.2.0) it.1

pub returns-in-NotFed : goal.returns-in-NotFed
returns-in-NotFed c =
    ok-map c.operand_lines.result _ _ c.operand_lines.ensures
    (λ lines is. subst (λ fault. AreFaultLines c.args.model.now (Some fault) lines.items) (sym c.in-NotFed.is) is)
