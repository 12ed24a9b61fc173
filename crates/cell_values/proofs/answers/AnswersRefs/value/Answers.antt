use Rattle.std.proofs.Common.{◌≡◌, sym, ◌∙◌, ap, subst, ℕ}
use Rattle.cube_fixed.specs.declared.value.Value.{Value}
use Rattle.cube_space.specs.Cells.{IsCell}
use Rattle.rule_evaluate.specs.declared.ask.Ask.TheVariants.{Value as of_value}
use Rattle.cell_values.specs.Inside.Answers.{ListedAnswers}
use Rattle.cell_values.specs.Reading.{value_on}
use Rattle.cell_values.proofs.Asked.{readings-value, value-within, value-right, value-missing, missing-one}
use Rattle.cell_values.proofs.answers.AnswersRefs.value.Goals as goal

pub remembered-requires : goal.remembered-requires
remembered-requires g c =
    subst (λ (at : ListedAnswers). IsCell at.version.model.space c.args.cell) (sym c.self.view_is) (value-within c.args.self.now (g.M.Memory.values c.args.memory.now) c.args.cell c.requires)

pub told-requires : goal.told-requires
told-requires g c =
    subst (λ (at : ListedAnswers). IsCell at.version.model.space c.args.cell) (sym c.self.view_is) (value-within c.args.self.now (g.M.Memory.values c.args.memory.now) c.args.cell c.requires)

pub returns-in-Some-clause-value : goal.returns-in-Some-clause-value
returns-in-Some-clause-value g c =
    let right = value-right c.args.self.now (g.M.Memory.values c.args.memory.now) c.args.cell c.requires in
    c.in-Some.ensures.value ∙ right ∙ sym (ap (λ (f : ℕ → Value). f c.args.cell) (readings-value c.args.self.now.version))

pub returns-in-Ok-clause-value : goal.returns-in-Ok-clause-value
returns-in-Ok-clause-value g c =
    c.in-Ok.ensures.right ∙ sym (ap (λ (f : ℕ → Value). f c.args.cell) (readings-value c.args.self.now.version))

pub returns-in-Some-told-clause-value : goal.returns-in-Some-told-clause-value
returns-in-Some-told-clause-value g c =
    let value = subst (λ (at : ListedAnswers). c.in-Some-told.value ≡ value_on at.version c.args.cell) c.self.view_is c.in-Some-told.ensures in
    value ∙ sym (ap (λ (f : ℕ → Value). f c.args.cell) (readings-value c.args.self.now.version))

pub returns-in-None-clause-fault : goal.returns-in-None-clause-fault
returns-in-None-clause-fault g c =
    let values = g.M.Memory.values c.args.memory.now in
    let fault = c.in-Err.ensures.fault in
    missing-one c.args.self.now c.in-Err.missing (of_value c.args.cell) (value-missing c.args.self.now values c.args.cell c.requires fault.0) fault.1 fault.2
