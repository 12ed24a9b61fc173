use Rattle.std.proofs.Common.{◌≡◌, sym, ap, ◌∙◌, subst, ℤ, List, Some, None}
use Rattle.cell_store.specs.declared.entry.Entry.{Entry}
use Rattle.cell_store.specs.Entries.{number_at}
use Rattle.cube_fixed.specs.declared.value.Value.TheVariants.{Num}
use Rattle.cube_space.specs.Cells.{is_leaf_cell}
use Rattle.cube_space.specs.Layout.{Layout}
use Rattle.rule_model.specs.BoundModel.{BoundModel}
use Rattle.rule_model.specs.Governing.{governing_from, formula_at}
use Rattle.cell_values.proofs.Telling.{stored-value}
use Rattle.cell_values.proofs.told.origin_of.Goals as goal

pub governed_origin-requires-clause-leaf : goal.governed_origin-requires-clause-leaf
governed_origin-requires-clause-leaf c =
    sym (c.is_leaf-is_leaf.ensures ∙ ap (λ (s : Layout). is_leaf_cell s c.args.cell) (c.space.ensures.space ∙ ap (λ (m : BoundModel). m.space) c.model-model.ensures.model))

pub governed_origin-requires-clause-governs : goal.governed_origin-requires-clause-governs
governed_origin-requires-clause-governs c =
    subst (λ (m : BoundModel). governing_from m c.args.cell 0 ≡ Some c.in-Some.statement) c.model-model.ensures.model c.in-Some.ensures.0

pub governed_origin-requires-clause-part : goal.governed_origin-requires-clause-part
governed_origin-requires-clause-part c =
    subst (λ (m : BoundModel). formula_at m c.args.cell c.in-Some.statement ≡ Some c.in-Some.part.now) c.model-model.ensures.model c.in-Some.ensures.1

pub returns-then-is_leaf : goal.returns-then-is_leaf
returns-then-is_leaf c =
    let sound = c.is_sound.ensures in
    let v = c.args.version.now in
    let leaf = sym (c.is_leaf-is_leaf.ensures ∙ ap (λ (s : Layout). is_leaf_cell s c.args.cell) (c.space.ensures.space ∙ ap (λ (m : BoundModel). m.space) c.model-model.ensures.model)) ∙ c.if-is_leaf.true in
    let none = subst (λ (m : BoundModel). governing_from m c.args.cell 0 ≡ None) c.model-model.ensures.model c.in-None.ensures in
    let value = ap (λ (z : ℤ). Num z) (c.get.ensures ∙ ap (λ (es : List Entry). number_at es c.args.cell) c.store.ensures.stored)
    ∙ sym (stored-value v c.args.cell sound.space sound.rules sound.accepted c.requires leaf none) in
    (none, leaf, value)
