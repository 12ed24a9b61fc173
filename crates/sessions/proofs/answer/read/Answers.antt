use Rattle.std.proofs.Common.{◌≡◌, ◌∙◌, ap, length, sym, subst, arith}
use Rattle.history.specs.Version.{content_after}
use Rattle.sandbox.specs.Sandboxes.{answer, layer_in, IsLaid, Reads}
use Rattle.version_book.specs.Lists.{GoesOn}
use Rattle.version_book.specs.Passes.{opening_of, seen}
use Rattle.sessions.specs.Answers.{sight}
use Rattle.sessions.proofs.Acts.{answered_read}
use Rattle.sessions.proofs.Laid.{laid_here, laid_newest, laid_on, told_if_err}
use Rattle.sessions.proofs.answer.read.Goals as goal

pub read_in-requires-clause-reads : goal.read_in-requires-clause-reads
read_in-requires-clause-reads g c =
    let w = g.W.World in
    let kept = g.W.Layered.kept_writes in
    let goes = c.pin.ensures.seen in
    let newest = laid_newest w.content w.after g.W.Layered.sandbox.unfit kept (w.content (opening_of c.args.book.now)) (seen c.args.pass.now) (seen c.pin.new.pass) goes.added c.args.own.now c.move_to.new.self c.place-place.result
    goes.is (c.place-place.ensures ∙ c.in_ok-pin.ensures.place) c.move_to.ensures.sandbox c.requires.laid in
    subst (λ layer. Reads layer c.args.act.now) (sym newest.1) c.requires.reads

pub read_in-requires-clause-laid : goal.read_in-requires-clause-laid
read_in-requires-clause-laid g c =
    let w = g.W.World in
    let kept = g.W.Layered.kept_writes in
    let first = w.content (opening_of c.args.book.now) in
    let goes = c.pin.ensures.seen in
    let newest = laid_newest w.content w.after g.W.Layered.sandbox.unfit kept first (seen c.args.pass.now) (seen c.pin.new.pass) goes.added c.args.own.now c.move_to.new.self c.place-place.result
    goes.is (c.place-place.ensures ∙ c.in_ok-pin.ensures.place) c.move_to.ensures.sandbox c.requires.laid in
    let here : w.content c.state.result.now ≡ content_after w.after first (seen c.pin.new.pass) = ap w.content c.state.ensures ∙ c.in_ok-pin.ensures.state in
    subst (λ below. IsLaid w.content w.after g.W.Layered.sandbox.unfit kept below c.move_to.new.self.sandbox) (sym here) newest.0

pub returns-clause-answered : goal.returns-clause-answered
returns-clause-answered g c =
    let w = g.W.World in
    let s = g.W.Layered.sandbox in
    let kept = g.W.Layered.kept_writes in
    let first = w.content (opening_of c.args.book.now) in
    let own = c.args.own.now in
    let goes = c.pin.ensures.seen in
    let newest = laid_newest w.content w.after s.unfit kept first (seen c.args.pass.now) (seen c.pin.new.pass) goes.added own c.move_to.new.self c.place-place.result
    goes.is (c.place-place.ensures ∙ c.in_ok-pin.ensures.place) c.move_to.ensures.sandbox c.requires.laid in
    let here : w.content c.state.result.now ≡ content_after w.after first (seen c.pin.new.pass) = ap w.content c.state.ensures ∙ c.in_ok-pin.ensures.state in
    answered_read w.effect w.after s first (sight c.args.pass.now) (sight c.pin.new.pass) c.args.by.0 c.args.by.1 (layer_in kept own.sandbox) (layer_in kept c.read_in.new.own) c.args.act.now
    (record { place = c.place-place.result; reply = c.in_ok-reply.reply })
    (subst (λ ns. GoesOn (seen c.args.pass.now) (seen c.pin.new.pass) ns) c.requires.user c.pin.ensures.seen)
    (let up = c.pin.ensures.looks in omega arith)
    (c.place-place.ensures ∙ c.in_ok-pin.ensures.place)
    (ap (λ content. answer w.effect w.after s content (layer_in kept own.sandbox) c.args.act.now) (sym here)
    ∙ ap (λ layer. answer w.effect w.after s (w.content c.state.result.now) layer c.args.act.now) (sym newest.1)
    ∙ c.in_ok-reply.ensures.told)

pub returns-in_err-pin-clause-laid : goal.returns-in_err-pin-clause-laid
returns-in_err-pin-clause-laid g c =
    let w = g.W.World in
    let goes = c.pin.ensures.seen in
    laid_on w.content w.after g.W.Layered.sandbox.unfit g.W.Layered.kept_writes (w.content (opening_of c.args.book.now)) (seen c.args.pass.now) (seen c.pin.new.pass) goes.added c.args.own.now goes.is c.requires.laid

pub returns-in_err-reply-clause-layer : goal.returns-in_err-reply-clause-layer
returns-in_err-reply-clause-layer g c =
    let w = g.W.World in
    let kept = g.W.Layered.kept_writes in
    let goes = c.pin.ensures.seen in
    let newest = laid_newest w.content w.after g.W.Layered.sandbox.unfit kept (w.content (opening_of c.args.book.now)) (seen c.args.pass.now) (seen c.pin.new.pass) goes.added c.args.own.now c.move_to.new.self c.place-place.result
    goes.is (c.place-place.ensures ∙ c.in_ok-pin.ensures.place) c.move_to.ensures.sandbox c.requires.laid in
    let same : layer_in kept c.read_in.new.own ≡ layer_in kept c.args.own.now.sandbox = c.in_err-reply.ensures.err ∙ newest.1 in
    told_if_err c.from_residual-in_err-reply.result (layer_in kept c.read_in.new.own ≡ layer_in kept c.args.own.now.sandbox) same

pub returns-in_err-reply-clause-laid : goal.returns-in_err-reply-clause-laid
returns-in_err-reply-clause-laid g c =
    let w = g.W.World in
    let first = w.content (opening_of c.args.book.now) in
    let here : w.content c.state.result.now ≡ content_after w.after first (seen c.pin.new.pass) = ap w.content c.state.ensures ∙ c.in_ok-pin.ensures.state in
    laid_here w.content w.after g.W.Layered.sandbox.unfit g.W.Layered.kept_writes first (seen c.pin.new.pass) (record { sandbox = c.read_in.new.own; laid_at = c.move_to.new.self.laid_at }) (w.content c.state.result.now)
    (c.move_to.ensures.at ∙ c.place-place.ensures ∙ c.in_ok-pin.ensures.place) here c.read_in.ensures.laid

pub returns-clause-laid : goal.returns-clause-laid
returns-clause-laid g c =
    let w = g.W.World in
    let first = w.content (opening_of c.args.book.now) in
    let here : w.content c.state.result.now ≡ content_after w.after first (seen c.pin.new.pass) = ap w.content c.state.ensures ∙ c.in_ok-pin.ensures.state in
    laid_here w.content w.after g.W.Layered.sandbox.unfit g.W.Layered.kept_writes first (seen c.pin.new.pass) (record { sandbox = c.read_in.new.own; laid_at = c.move_to.new.self.laid_at }) (w.content c.state.result.now)
    (c.move_to.ensures.at ∙ c.place-place.ensures ∙ c.in_ok-pin.ensures.place) here c.read_in.ensures.laid
