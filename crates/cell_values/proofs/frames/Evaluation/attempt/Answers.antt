use Rattle.std.proofs.Common.{◌≡◌, ◌∙◌, sym, ap, subst, true, drop, IfOk}
use Rattle.cube_fixed.specs.declared.value.Value.{Value}
use Rattle.rule_evaluate.specs.Course.{passes}
use Rattle.rule_evaluate.specs.Readings.{Readings, statements_value}
use Rattle.rule_model.specs.BoundModel.{BoundModel}
use Rattle.rule_model.specs.Governing.{rules_for, formula_at}
use Rattle.rule_model.specs.System.{system_of}
use Rattle.std.specs.Prelude.{IsSome}
use Rattle.rule_dense.proofs.Rights.{part-there}
use Rattle.cell_values.specs.Reading.{value_on}
use Rattle.cell_values.specs.Inside.Answers.{ListedAnswers, may_ask}
use Rattle.cell_values.specs.Inside.Questions.{readings_on}
use Rattle.cell_values.proofs.Asked.{evaluation-passes, readings-are}
use Rattle.cell_values.proofs.Values.{governed-value}
use Rattle.cell_values.proofs.frames.Evaluation.attempt.Goals as goal

pub evaluate-requires-clause-part : goal.evaluate-requires-clause-part
evaluate-requires-clause-part g c =
    subst (λ (m : BoundModel). IsSome (formula_at m c.args.self.now.cell c.args.self.now.statement)) (sym c.model.ensures.model)
    (part-there c.args.version.now.model c.args.self.now.cell c.args.self.now.statement c.requires.own.governs)

pub evaluate-requires-clause-may_ask : goal.evaluate-requires-clause-may_ask
evaluate-requires-clause-may_ask g c =
    let sound = c.is_sound.ensures in
    let values = g.M.Memory.values c.args.memory.now in
    let cell = c.args.self.now.cell in
    let k = c.args.self.now.statement in
    let own : ListedAnswers = record { version = c.args.version.now; known = c.deref.result.now; cell = cell } in
    subst (λ (m : BoundModel). passes (system_of m) (readings_on c.new-answers.result.version) cell (may_ask (record { listed = c.new-answers.result; values = values })) (drop k (rules_for m cell)) ≡ true)
    (sym c.model.ensures.model)
    (subst (λ (at : ListedAnswers). passes (system_of c.args.version.now.model) (readings_on at.version) cell (may_ask (record { listed = at; values = values })) (drop k (rules_for c.args.version.now.model cell)) ≡ true)
    (sym c.new-answers.ensures)
    (evaluation-passes c.args.version.now sound.space sound.rules sound.accepted cell c.requires.own.is_cell c.deref.result.now values c.requires.values k))

pub returns-clause-value : goal.returns-clause-value
returns-clause-value g c =
    let sound = c.is_sound.ensures in
    let v = c.args.version.now in
    let cell = c.args.self.now.cell in
    let k = c.args.self.now.statement in
    let own : ListedAnswers = record { version = v; known = c.deref.result.now; cell = cell } in
    let same : statements_value (system_of c.model.result.now) (readings_on c.new-answers.result.version) cell (drop k (rules_for c.model.result.now cell)) ≡ value_on v cell =
    ap (λ (m : BoundModel). statements_value (system_of m) (readings_on c.new-answers.result.version) cell (drop k (rules_for m cell))) c.model.ensures.model
    ∙ ap (λ (at : ListedAnswers). statements_value (system_of v.model) (readings_on at.version) cell (drop k (rules_for v.model cell))) c.new-answers.ensures
    ∙ ap (λ (t : Readings). statements_value (system_of v.model) t cell (drop k (rules_for v.model cell))) (readings-are v)
    ∙ governed-value v sound.space sound.rules sound.accepted cell c.requires.own.is_cell k c.requires.own.governs in
    subst (λ (x : Value). IfOk c.evaluate.result (λ a. a ≡ x)) same c.evaluate.ensures.value
