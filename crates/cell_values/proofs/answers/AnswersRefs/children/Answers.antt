use Rattle.std.proofs.Common.{◌≡◌, sym, ap, subst, ℕ, IfOk}
use Rattle.cube_fixed.specs.declared.value.Value.{Value}
use Rattle.rule_evaluate.specs.declared.ask.Ask.TheVariants.{Children as of_children}
use Rattle.cell_values.specs.Inside.Questions.{children_on, readings_on}
use Rattle.cell_values.proofs.Asked.{missing-or, readings-children, children-missing}
use Rattle.cell_values.proofs.answers.AnswersRefs.children.Goals as goal

pub returns-clause-value : goal.returns-clause-value
returns-clause-value g c =
    let same : children_on c.args.self.now.version c.args.cell c.args.dim ≡ (readings_on c.args.self.now.version).children c.args.cell c.args.dim =
    sym (ap (λ (f : ℕ → ℕ → Value). f c.args.cell c.args.dim) (readings-children c.args.self.now.version)) in
    subst (λ (x : Value). IfOk c.listed.result (λ v. v ≡ x)) same c.listed.ensures.right

pub returns-clause-fault : goal.returns-clause-fault
returns-clause-fault g c =
    let values = g.M.Memory.values c.args.memory.now in
    missing-or c.args.self.now (of_children c.args.cell c.args.dim) c.listed.result c.listed.ensures.fault
    (λ none. children-missing c.args.self.now values c.args.cell c.args.dim c.requires none)
