use Rattle.std.proofs.Common.{◌≡◌, sym, subst, drop, true}
use Rattle.cube_space.specs.Cells.{IsCell}
use Rattle.rule_model.specs.BoundModel.{BoundModel}
use Rattle.rule_model.specs.System.{system_of}
use Rattle.rule_model.specs.Governing.{rules_for}
use Rattle.rule_evaluate.specs.Course.{passes}
use Rattle.rule_dense.specs.Inside.Plain.{plain_readings, may_be_asked}
use Rattle.rule_dense.proofs.Rights.{asked-of_cell}
use Rattle.rule_dense.proofs.table.statement_value.Goals as goal

pub evaluate-requires-clause-may_ask : goal.evaluate-requires-clause-may_ask
evaluate-requires-clause-may_ask g c =
    subst (λ (m : BoundModel). passes (system_of m) (plain_readings c.args.plain.now) c.args.cell (may_be_asked c.args.plain.now) (drop c.args.statement (rules_for m c.args.cell)) ≡ true) c.requires.own
    (asked-of_cell c.args.plain.now c.args.cell (subst (λ (m : BoundModel). IsCell m.space c.args.cell) (sym c.requires.own) c.requires.cell) (drop c.args.statement (rules_for c.args.plain.now.model c.args.cell)))
