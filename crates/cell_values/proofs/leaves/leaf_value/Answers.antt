use Rattle.std.proofs.Common.{sym, ap, ◌∙◌, ℤ}
use Rattle.cube_fixed.specs.declared.value.Value.TheVariants.{Num}
use Rattle.rule_model.specs.BoundModel.{BoundModel}
use Rattle.rule_model.specs.Governing.{governing_from}
use Rattle.cell_values.proofs.BeginFacts.{stored-or}
use Rattle.cell_values.proofs.Telling.{stored-value}
use Rattle.cell_values.proofs.leaves.leaf_value.Goals as goal

pub returns-in-None-clause-value : goal.returns-in-None-clause-value
returns-in-None-clause-value g c =
    let sound = c.is_sound.ensures in
    let v = c.args.version.now in
    let cell = c.args.leaf.now.cell in
    let none = sym (c.governing.ensures ∙ ap (λ (m : BoundModel). governing_from m cell 0) c.model.ensures.model) ∙ c.in-None.is in
    ap (λ (z : ℤ). Num z) c.unwrap_or.ensures ∙ stored-or v.stored cell c.args.leaf.now.stored c.requires.stored
    ∙ sym (stored-value v cell sound.space sound.rules sound.accepted c.requires.cell c.requires.leaf none)
