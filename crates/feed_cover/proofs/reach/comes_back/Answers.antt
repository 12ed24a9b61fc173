use Rattle.std.proofs.Common.{◌∙◌, ◌<◌, sym, arith, length}
use Rattle.rule_laws.specs.declared.reference.Arg.TheVariants.{Fixed}
use Rattle.ref_order.proofs.Args.{args-long}
use Rattle.feed_cover.proofs.Ways.{some-arg}
use Rattle.feed_cover.proofs.Answered.{back-right, found-right, kept-right}
use Rattle.feed_cover.proofs.reach.comes_back.Goals as goal

pub returns-in-Some-recalled-clause-comes : goal.returns-in-Some-recalled-clause-comes
returns-in-Some-recalled-clause-comes c =
    let back = c.args.back in
    let low : back.place < length back.view.reference.now.args = omega (arith, c.requires.back.way.its, args-long back.model.now.space back.view.cube back.view.reference.now c.requires.back.way.is_view.reference) in
    found-right back.model.now back.view.cube c.args.answers.now c.in-Some.asked c.in-Some-recalled.known c.requires.answers c.in-Some-recalled.ensures
    ∙ sym (back-right back c.in-Some.asked c.in-Some.ensures c.requires.place (some-arg back.view.reference.now.args back.place (Fixed 0) low))

pub returns-clause-answers : goal.returns-clause-answers
returns-clause-answers c =
    let back = c.args.back in
    let low : back.place < length back.view.reference.now.args = omega (arith, c.requires.back.way.its, args-long back.model.now.space back.view.cube back.view.reference.now c.requires.back.way.is_view.reference) in
    kept-right back.model.now back.view.cube c.args.answers.now c.keep.new.self (record { asked = c.in-Some.asked; is = c.reaches_back-is.result }) c.requires.answers
    (c.reaches_back-is.ensures ∙ back-right back c.in-Some.asked c.in-Some.ensures c.requires.place (some-arg back.view.reference.now.args back.place (Fixed 0) low))
    c.keep.ensures
