use Rattle.std.proofs.Common.{rules, ◌≡◌, ◌∙◌, ap, refl, None, Some}
use Rattle.version_book.specs.Passes.{opening_of, seen}
use Rattle.sandbox.specs.declared.act.Act.TheVariants.{Do, Publish}
use Rattle.sandbox.specs.Sandboxes.{layer_in}
use Rattle.sessions.specs.Answers.{sight}
use Rattle.sessions.proofs.Acts.{alone_answered, publish_answered}
use Rattle.sessions.proofs.Answered.{settles_adds}
use Rattle.sessions.proofs.Laid.{laid_on, laid_published, layer_left_in}
use Rattle.sessions.proofs.answer.answer.Goals as goal

pub returns-in_ok-settled-in-None-Do-clause-answered : goal.returns-in_ok-settled-in-None-Do-clause-answered
returns-in_ok-settled-in-None-Do-clause-answered g c =
    let w = g.W.World in
    let kept = g.W.Layered.kept_writes in
    let sandbox_is : c.args.own.now.sandbox ≡ None = search rules in
    let act_is : c.args.act.now ≡ Do c.in-None-Do.command = search rules in
    alone_answered w.effect w.after g.W.Layered.sandbox (w.content (opening_of c.args.book.now)) (sight c.args.pass.now) (sight c.decide.new.pass) c.args.by.0 c.args.by.1
    (layer_in kept c.args.own.now.sandbox) c.in-None-Do.command c.args.act.now c.in_ok-settled-in-None-Do.settled c.told_of.result
    (ap (layer_in kept) sandbox_is) act_is c.told_of.ensures c.in_ok-settled-in-None-Do.ensures.decided

pub returns-in_ok-settled-in-Some-Publish-clause-answered : goal.returns-in_ok-settled-in-Some-Publish-clause-answered
returns-in_ok-settled-in-Some-Publish-clause-answered g c =
    let w = g.W.World in
    let kept = g.W.Layered.kept_writes in
    let sandbox = c.in-Some-Publish.sandbox.now in
    let settled = c.in_ok-settled-in-Some-Publish.settled in
    let sandbox_is : c.args.own.now.sandbox ≡ Some sandbox = search rules in
    let act_is : c.args.act.now ≡ Publish = search rules in
    publish_answered w.effect w.after g.W.Layered.sandbox (w.content (opening_of c.args.book.now)) (sight c.args.pass.now) (sight c.decide-in-Some-Publish.new.pass) c.args.by.0 c.args.by.1
    (layer_in kept c.args.own.now.sandbox) (kept sandbox.layer) c.args.act.now c.in_ok-command-in-Some-Publish.command settled c.told_of-in-Some-Publish.result (layer_in kept c.leave.new.sandbox)
    (ap (layer_in kept) sandbox_is) act_is c.told_of-in-Some-Publish.ensures (ap (layer_in kept) c.leave.ensures ∙ layer_left_in kept settled.accepted c.args.own.now.sandbox)
    c.in_ok-command-in-Some-Publish.ensures.fixed c.in_ok-settled-in-Some-Publish.ensures.decided

pub returns-in_ok-settled-in-None-Do-clause-laid : goal.returns-in_ok-settled-in-None-Do-clause-laid
returns-in_ok-settled-in-None-Do-clause-laid g c =
    let w = g.W.World in
    let first = w.content (opening_of c.args.book.now) in
    let adds = settles_adds w.effect w.after first _ _ _ _ _ _ _ c.in_ok-settled-in-None-Do.ensures.decided.settles in
    laid_on w.content w.after g.W.Layered.sandbox.unfit g.W.Layered.kept_writes first (seen c.args.pass.now) (seen c.decide.new.pass) adds.0 c.args.own.now adds.1 c.requires.laid

pub returns-in_err-settled-in-None-Do-clause-laid : goal.returns-in_err-settled-in-None-Do-clause-laid
returns-in_err-settled-in-None-Do-clause-laid g c =
    let w = g.W.World in
    let goes = c.in_err-settled-in-None-Do.ensures.err in
    laid_on w.content w.after g.W.Layered.sandbox.unfit g.W.Layered.kept_writes (w.content (opening_of c.args.book.now)) (seen c.args.pass.now) (seen c.decide.new.pass) goes.added c.args.own.now goes.is c.requires.laid

pub returns-in_ok-settled-in-Some-Publish-clause-laid : goal.returns-in_ok-settled-in-Some-Publish-clause-laid
returns-in_ok-settled-in-Some-Publish-clause-laid g c =
    let w = g.W.World in
    let first = w.content (opening_of c.args.book.now) in
    let own = c.args.own.now in
    let adds = settles_adds w.effect w.after first _ _ _ _ _ _ _ c.in_ok-settled-in-Some-Publish.ensures.decided.settles in
    laid_published w.content w.after g.W.Layered.sandbox.unfit g.W.Layered.kept_writes first (seen c.args.pass.now) (seen c.decide-in-Some-Publish.new.pass) adds.0 own
    (record { sandbox = c.leave.new.sandbox; laid_at = own.laid_at }) c.in_ok-settled-in-Some-Publish.settled.accepted adds.1 refl c.leave.ensures c.requires.laid

pub returns-in_err-settled-in-Some-Publish-clause-laid : goal.returns-in_err-settled-in-Some-Publish-clause-laid
returns-in_err-settled-in-Some-Publish-clause-laid g c =
    let w = g.W.World in
    let goes = c.in_err-settled-in-Some-Publish.ensures.err in
    laid_on w.content w.after g.W.Layered.sandbox.unfit g.W.Layered.kept_writes (w.content (opening_of c.args.book.now)) (seen c.args.pass.now) (seen c.decide-in-Some-Publish.new.pass) goes.added c.args.own.now goes.is c.requires.laid
