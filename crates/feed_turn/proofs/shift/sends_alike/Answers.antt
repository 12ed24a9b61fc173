use Rattle.std.proofs.Common.{rules, ◌≡◌, ◌∙◌, true, false, None, ap, sym, length}
use Rattle.cover_laws.specs.Looking.{sent}
use Rattle.feed_turn.specs.Shift.{goes}
use Rattle.feed_turn.proofs.Ranges.{all-fails, all-next}
use Rattle.feed_turn.proofs.Shifted.{sent-at}
use Rattle.feed_turn.proofs.shift.sends_alike.Goals as goal

pub returns-then-not-goes : goal.returns-then-not-goes
returns-then-not-goes c =
    let back = c.args.back.now in
    let k = c.each.element in
    let off : c.goes.result ≡ false = search rules in
    sym (all-fails (λ e. goes c.args.map.now e (sent back e)) (length back) k c.each-test.true (ap (goes c.args.map.now k) (sent-at back k None c.each-test.true) ∙ sym c.goes.ensures ∙ off))

pub each-preserved : goal.each-preserved
each-preserved c =
    let back = c.args.back.now in
    let k = c.each.element in
    let on : c.goes.result ≡ true = search rules in
    all-next (λ e. goes c.args.map.now e (sent back e)) k c.each.invariant (ap (goes c.args.map.now k) (sent-at back k None c.each-test.true) ∙ sym c.goes.ensures ∙ on)
