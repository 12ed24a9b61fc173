use Rattle.std.proofs.Common.{rules, ◌≡◌, ◌<◌, ◌∙◌, sym, arith, length, true, false, slice_index_or}
use Rattle.rule_model.specs.Areas.{in_set}
use Rattle.rule_model.proofs.Statements.{set_with, set_without, sets_done}
use Rattle.rule_model.proofs.parts.in_sets.Goals as goal

pub returns-then-not-in_set : goal.returns-then-not-in_set
returns-then-not-in_set c =
    let low : c.loop-place.place < length c.args.sets.now = search rules in
    let off : in_set c.index-sets-place.result (slice_index_or c.args.elements.now c.loop-place.place 0) ≡ false = search rules in
    sym (c.loop-place.invariant ∙ set_without c.args.sets.now c.args.elements.now c.loop-place.place c.index-sets-place.result low (omega (arith, c.requires.each)) c.index-sets-place.is off)

pub loop-place-preserved : goal.loop-place-preserved
loop-place-preserved c =
    let low : c.loop-place.place < length c.args.sets.now = search rules in
    let on : in_set c.index-sets-place.result (slice_index_or c.args.elements.now c.loop-place.place 0) ≡ true = search rules in
    c.loop-place.invariant ∙ set_with c.args.sets.now c.args.elements.now c.loop-place.place c.index-sets-place.result low (omega (arith, c.requires.each)) c.index-sets-place.is on

pub returns : goal.returns
returns c = sym (c.loop-place.invariant ∙ sets_done c.args.sets.now c.args.elements.now c.loop-place.place (search rules))
