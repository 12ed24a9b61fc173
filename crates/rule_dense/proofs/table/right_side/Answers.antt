use Rattle.std.proofs.Common.{sym, ◌∙◌, ap, drop}
use Rattle.rule_model.specs.System.{system_of}
use Rattle.rule_model.specs.Governing.{rules_for}
use Rattle.rule_evaluate.specs.Readings.{statements_value}
use Rattle.stored_laws.specs.Stored.{stored_in}
use Rattle.rule_dense.specs.Inside.Plain.{PlainTable, table_of, base_in, plain_readings}
use Rattle.rule_dense.proofs.Rights.{right-ungoverned, right-governed, part-there}
use Rattle.rule_dense.proofs.table.right_side.Goals as goal

pub statement_value-requires-clause-part : goal.statement_value-requires-clause-part
statement_value-requires-clause-part c = part-there c.args.model.now c.args.cell c.in-Some.statement (sym c.governing.ensures.value ∙ c.in-Some.is)

pub returns-in-Some : goal.returns-in-Some
unfolding plain_readings
returns-in-Some c =
    c.statement_value.ensures
    ∙ ap (λ (p : PlainTable). statements_value (system_of c.args.model.now) (plain_readings p) c.args.cell (drop c.in-Some.statement (rules_for c.args.model.now c.args.cell))) c.new-plain.ensures
    ∙ right-governed c.args.model.now (stored_in c.args.store.now) (table_of c.args.values.now) c.args.cell c.requires.cell c.in-Some.statement (sym c.governing.ensures.value ∙ c.in-Some.is)

pub returns-in-None : goal.returns-in-None
returns-in-None c =
    c.base_of.ensures ∙ ap (λ (p : PlainTable). base_in p c.args.cell) c.new-plain.ensures
    ∙ sym (right-ungoverned c.args.model.now (stored_in c.args.store.now) (table_of c.args.values.now) c.args.cell c.requires.cell (sym c.governing.ensures.value ∙ c.in-None.is))
