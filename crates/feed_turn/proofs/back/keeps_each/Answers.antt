use Rattle.std.proofs.Common.{rules, ◌≡◌, ◌∙◌, true, false, Some, sym, arith, length}
use Rattle.feed_turn.specs.Shift.{goes}
use Rattle.feed_turn.proofs.Ranges.{all-fails, all-next}
use Rattle.feed_turn.proofs.Shifted.{keeps-identity}
use Rattle.feed_turn.proofs.back.keeps_each.Goals as goal

pub returns-then-is_identity : goal.returns-then-is_identity
returns-then-is_identity c =
    let on : c.is_identity.result ≡ true = search rules in
    sym (keeps-identity c.args.to.now (c.is_identity.ensures on))

pub returns-then-not-goes : goal.returns-then-not-goes
returns-then-not-goes c =
    let to = c.args.to.now in
    let k = c.each.element in
    let off : c.goes.result ≡ false = search rules in
    sym (all-fails (λ e. goes to e (Some e)) (length to) k (omega (arith, c.each-test.true, c.requires)) (sym c.goes.ensures ∙ off))

pub each-preserved : goal.each-preserved
each-preserved c =
    let to = c.args.to.now in
    let k = c.each.element in
    let on : c.goes.result ≡ true = search rules in
    all-next (λ e. goes to e (Some e)) k c.each.invariant (sym c.goes.ensures ∙ on)
