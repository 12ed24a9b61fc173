use Rattle.std.proofs.Common.{◌≡◌, sym, ap, ◌∙◌, subst, ℕ, ℤ, List, false, IfOk}
use Rattle.cell_store.specs.declared.entry.Entry.{Entry}
use Rattle.cell_store.specs.Entries.{number_at}
use Rattle.cube_fixed.specs.declared.value.Value.{Value}
use Rattle.cube_fixed.specs.declared.value.Value.TheVariants.{Num}
use Rattle.cube_space.specs.Cells.{IsCell, is_leaf_cell}
use Rattle.cube_space.specs.Layout.{Layout}
use Rattle.rule_evaluate.specs.declared.ask.Ask.TheVariants.{Base as of_base}
use Rattle.rule_model.specs.BoundModel.{BoundModel}
use Rattle.cell_values.specs.Inside.Answers.{ListedAnswers}
use Rattle.cell_values.specs.Inside.Questions.{base_on, readings_on}
use Rattle.cell_values.proofs.Asked.{missing-or, readings-base, base-missing, base-within}
use Rattle.cell_values.proofs.Values.{leaf-base}
use Rattle.cell_values.proofs.answers.AnswersRefs.base.Goals as goal

pub returns-then-is_leaf-clause-value : goal.returns-then-is_leaf-clause-value
returns-then-is_leaf-clause-value g c =
    let values = g.M.Memory.values c.args.memory.now in
    let sound = c.is_sound.ensures in
    let own : ListedAnswers = record { version = c.self.inside.version.now; known = c.self.inside.known.now; cell = c.self.inside.cell } in
    let leaf : c.is_leaf.result ≡ is_leaf_cell own.version.model.space c.args.cell = c.is_leaf.ensures ∙ ap (λ (s : Layout). is_leaf_cell s c.args.cell) (c.space.ensures.space ∙ ap (λ (m : BoundModel). m.space) c.model.ensures.model) in
    let may = subst (λ (at : ListedAnswers). IsCell at.version.model.space c.args.cell) (sym c.self.view_is) (base-within c.args.self.now values c.args.cell c.requires) in
    ap (λ (z : ℤ). Num z) (c.get.ensures ∙ ap (λ (es : List Entry). number_at es c.args.cell) c.store.ensures.stored)
    ∙ sym (leaf-base own.version sound.space sound.rules sound.accepted c.args.cell may (sym leaf ∙ c.if-is_leaf.true))
    ∙ ap (λ (at : ListedAnswers). base_on at.version c.args.cell) c.self.view_is
    ∙ sym (ap (λ (f : ℕ → Value). f c.args.cell) (readings-base c.args.self.now.version))

pub returns-clause-value : goal.returns-clause-value
returns-clause-value g c =
    let same : base_on c.args.self.now.version c.args.cell ≡ (readings_on c.args.self.now.version).base c.args.cell =
    sym (ap (λ (f : ℕ → Value). f c.args.cell) (readings-base c.args.self.now.version)) in
    subst (λ (x : Value). IfOk c.listed.result (λ v. v ≡ x)) same c.listed.ensures.right

pub returns-clause-fault : goal.returns-clause-fault
returns-clause-fault g c =
    let values = g.M.Memory.values c.args.memory.now in
    let leaf : c.is_leaf.result ≡ is_leaf_cell c.self.inside.version.now.model.space c.args.cell = c.is_leaf.ensures ∙ ap (λ (s : Layout). is_leaf_cell s c.args.cell) (c.space.ensures.space ∙ ap (λ (m : BoundModel). m.space) c.model.ensures.model) in
    let total = subst (λ (at : ListedAnswers). is_leaf_cell at.version.model.space c.args.cell ≡ false) c.self.view_is (sym leaf ∙ c.if-is_leaf.false) in
    missing-or c.args.self.now (of_base c.args.cell) c.listed.result c.listed.ensures.fault
    (λ none. base-missing c.args.self.now values c.args.cell c.requires total none)
