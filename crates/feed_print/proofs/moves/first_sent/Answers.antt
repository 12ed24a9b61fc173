use Rattle.std.proofs.Common.{◌≡◌, ◌∙◌, ◌<◌, ◌+◌, suc, length, drop, sym, ap, arith}
use Rattle.feed_print.specs.FeederTexts.{first_sent}
use Rattle.feed_print.proofs.Maps.{sent_here, sent_next, nowhere_there}
use Rattle.feed_print.proofs.moves.first_sent.Goals as goal

pub returns-in-Some : goal.returns-in-Some
returns-in-Some c =
    let to = c.args.to.now in
    let k = c.each.element in
    sym (c.each.invariant ∙ sent_here to k k c.in-Some.target (sym c.get.ensures ∙ c.in-Some.is))

pub each-preserved : goal.each-preserved
each-preserved c =
    let to = c.args.to.now in
    let k = c.each.element in
    let low : k < length to = omega (arith, c.each-test.true, c.requires) in
    let next : suc k ≡ k + 1 = omega arith in
    c.each.invariant ∙ sent_next to k k low (sym c.get.ensures ∙ nowhere_there c.get.result c.in_default.not-Some)
    ∙ ap (λ n. first_sent n (drop (k + 1) to)) next
