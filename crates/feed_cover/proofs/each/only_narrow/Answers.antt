use Rattle.std.proofs.Common.{rules, ◌≡◌, ◌<◌, ◌∙◌, sym, subst, arith, true}
use Rattle.feed_cover.specs.Views.{look_of}
use Rattle.feed_cover.proofs.Asked.{only-done, only-two}
use Rattle.feed_cover.proofs.each.only_narrow.Goals as goal

pub returns-then-is_other : goal.returns-then-is_other
returns-then-is_other c = λ element only.
    let look = look_of c.args.model.now c.args.view in
    let on : c.is_narrow.result ≡ true = search rules in
    let other : c.is_other.result ≡ true = search rules in
    absurd (only-two look c.args.dim c.each.only c.each.k c.element_in-element.result (subst (λ n. c.each.k < n) c.count_in-k-end.ensures c.each-test.true) (sym c.element_in-element.ensures.element)
    (sym c.is_narrow.ensures ∙ on) c.each.invariant.found (sym c.is_other.ensures ∙ other) element only)

pub returns : goal.returns
returns c = λ element only.
    only-done (look_of c.args.model.now c.args.view) c.args.dim c.each.only c.each.k (omega (arith, c.count_in-k-end.ensures, c.each-test.false, c.each.auto.k-end)) c.each.invariant.found c.each.invariant.none element only
