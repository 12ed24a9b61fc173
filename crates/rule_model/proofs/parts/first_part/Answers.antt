use Rattle.std.proofs.Common.{rules, ◌≡◌, ◌<◌, ◌∙◌, sym, length, true, false}
use Rattle.std.specs.Prelude.{is_some}
use Rattle.rule_model.specs.Inside.Parts.{part_for}
use Rattle.rule_model.proofs.Statements.{part_here, part_later, part_nowhere}
use Rattle.rule_model.proofs.parts.first_part.Goals as goal

pub returns-then-is_some-clause-value : goal.returns-then-is_some-clause-value
returns-then-is_some-clause-value c =
    let low : c.loop-place.place < length c.args.statements.now = search rules in
    let on : is_some (part_for c.index-statements-place.result c.args.elements.now c.args.is_leaf) ≡ true = search rules in
    sym (c.loop-place.invariant ∙ part_here c.args.statements.now c.args.elements.now c.args.is_leaf c.loop-place.place c.index-statements-place.result low c.index-statements-place.is on)

pub loop-place-preserved : goal.loop-place-preserved
loop-place-preserved c =
    let low : c.loop-place.place < length c.args.statements.now = search rules in
    let off : is_some (part_for c.index-statements-place.result c.args.elements.now c.args.is_leaf) ≡ false = search rules in
    c.loop-place.invariant ∙ part_later c.args.statements.now c.args.elements.now c.args.is_leaf c.loop-place.place c.index-statements-place.result low c.index-statements-place.is off

pub returns-clause-value : goal.returns-clause-value
returns-clause-value c = sym (c.loop-place.invariant ∙ part_nowhere c.args.statements.now c.args.elements.now c.args.is_leaf c.loop-place.place (search rules))
