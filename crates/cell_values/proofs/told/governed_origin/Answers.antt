use Rattle.std.proofs.Common.{refl, sym, ap, ◌∙◌, subst, Some}
use Rattle.std.specs.Prelude.{IsSome}
use Rattle.rule_laws.specs.declared.formula.Formula.{Formula}
use Rattle.cell_values.proofs.Values.{quiet-value, number-value}
use Rattle.cell_values.proofs.told.governed_origin.Goals as goal

pub returns-in-Number : goal.returns-in-Number
returns-in-Number c =
    let sound = c.is_sound.ensures in
    let v = c.args.version.now in
    let is = c.requires.part ∙ ap (λ (f : Formula). Some f) c.in-Number.is in
    (subst IsSome (sym c.requires.governs) refl, sym (number-value v sound.space sound.rules sound.accepted c.args.cell c.requires.cell c.args.statement c.in-Number.number c.requires.governs is))

pub returns-then-not-is_live : goal.returns-then-not-is_live
returns-then-not-is_live c =
    let sound = c.is_sound.ensures in
    let v = c.args.version.now in
    (subst IsSome (sym c.requires.governs) refl, sym (quiet-value v sound.space sound.rules sound.accepted c.args.cell c.requires.cell sound.fed (c.requires.leaf ∙ c.if-is_leaf.true) (sym c.is_live.ensures ∙ c.if-not-is_live.true)))
