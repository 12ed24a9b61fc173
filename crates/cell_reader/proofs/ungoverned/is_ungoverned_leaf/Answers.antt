use Rattle.std.proofs.Common.{◌≡◌, ◌∙◌, refl, sym, ap, ℕ, true, false, not, [], Option, None, Some, is_some}
use Rattle.cell_values.specs.Reading.{value_on}
use Rattle.cell_values.proofs.Telling.{stored-value}
use Rattle.cell_versions.specs.Versions.{NumberedVersion}
use Rattle.cube_space.specs.Cells.{is_leaf_cell}
use Rattle.cube_space.specs.Layout.{Layout}
use Rattle.rule_model.specs.BoundModel.{BoundModel}
use Rattle.rule_model.specs.Governing.{governing_from}
use Rattle.cell_reader.proofs.ungoverned.is_ungoverned_leaf.Goals as goal

no_more : (found : Option ℕ) → is_some found ≡ false → found ≡ None
no_more None none = refl
no_more (Some statement) none = absurd (cc)

pub returns-then-is_leaf-clause-value : goal.returns-then-is_leaf-clause-value
unfolding value_on
returns-then-is_leaf-clause-value c = λ yes stored.
    let cell = c.args.cell in
    let model = c.args.version.now.model in
    let same : c.model-model.result.now ≡ model = c.model-model.ensures.model in
    let leaf : is_leaf_cell model.space cell ≡ true = sym (c.is_leaf.ensures ∙ ap (λ (s : Layout). is_leaf_cell s cell) (c.space.ensures.space ∙ ap (λ (m : BoundModel). m.space) same)) ∙ c.if-is_leaf.true in
    let found : c.governing.result ≡ governing_from model cell 0 = c.governing.ensures.value ∙ ap (λ (m : BoundModel). governing_from m cell 0) same in
    let none : governing_from model cell 0 ≡ None = sym found ∙ no_more c.governing.result (c.is_none.ensures ∙ ap not yes) in
    let version : NumberedVersion = record { number = 0; model = model; stored = stored; fed = [] } in
    stored-value version cell c.is_sound.ensures.space c.is_sound.ensures.rules c.model-model.ensures.accepted c.requires leaf none
