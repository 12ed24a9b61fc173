use Rattle.std.proofs.Common.{◌∙◌, ◌<◌, sym, ap, arith, length, Some}
use Rattle.rule_laws.specs.declared.reference.Arg.TheVariants.{Fixed}
use Rattle.ref_order.proofs.Args.{args-long}
use Rattle.ref_order.proofs.Sums.{sets-long, set-found}
use Rattle.feed_cover.proofs.Answered.{source-question}
use Rattle.feed_cover.proofs.Ways.{move-at, any-arg}
use Rattle.feed_cover.proofs.named.source_question.Goals as goal

pub bounds-sets-place : goal.bounds-sets-place
bounds-sets-place c =
    omega (arith, sets-long c.args.model.now.space c.args.view.reference.now.cube c.args.area.now c.requires.area, args-long c.args.model.now.space c.args.view.cube c.args.view.reference.now c.requires.view.reference, c.requires.place, ap length c.as_slice-sets.ensures)

pub question_of-requires-clause-dim : goal.question_of-requires-clause-dim
question_of-requires-clause-dim c = (move-at c.args.model.now.space c.args.view.cube c.args.view.reference.now c.as_slice-args.result.now c.args.place c.in-Moved-Some.from c.in-Moved-Some.to c.index-args-place.result c.requires.view.reference c.as_slice-args.ensures c.requires.place c.index-args-place.is c.in-Moved-Some.is-0).followed

pub returns-in-Moved-Some : goal.returns-in-Moved-Some
returns-in-Moved-Some c =
    let low : c.args.place < length c.args.area.now.sets = omega (arith, sets-long c.args.model.now.space c.args.view.reference.now.cube c.args.area.now c.requires.area, args-long c.args.model.now.space c.args.view.cube c.args.view.reference.now c.requires.view.reference, c.requires.place) in
    let set = set-found c.as_slice-sets.result.now c.args.area.now.sets c.args.place c.index-sets-place.result c.as_slice-sets.ensures low c.index-sets-place.is in
    let arg = any-arg c.as_slice-args.result.now c.args.view.reference.now.args c.args.place c.index-args-place.result (Fixed 0) c.as_slice-args.ensures c.requires.place c.index-args-place.is in
    source-question c.args.view c.args.area.now c.in-Moved-Some.from c.args.place c.in-Moved-Some.to _ c.in-Moved-Some.listed c.question_of.result
    (sym arg ∙ c.in-Moved-Some.is-0) (sym set ∙ c.in-Moved-Some.is-1) (ap Some c.as_slice-listed.ensures) c.question_of.ensures
