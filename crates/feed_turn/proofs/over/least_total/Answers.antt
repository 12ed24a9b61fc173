use Rattle.std.proofs.Common.{rules, ◌≡◌, ◌∙◌, true, sym, arith, length}
use Rattle.feed_turn.specs.Leaves.{is_total_over}
use Rattle.feed_turn.proofs.Ranges.{found-first, found-none}
use Rattle.feed_turn.proofs.over.least_total.Goals as goal

pub returns-then-is_total_over : goal.returns-then-is_total_over
returns-then-is_total_over c =
    let d = c.args.dimension.now in
    let on : c.is_total_over.result ≡ true = search rules in
    sym (found-first (is_total_over d c.args.leaves.now) (length d.elements) c.each.element (omega (arith, c.each-test.true, c.len-element-end.ensures.len)) c.each.invariant (sym c.is_total_over.ensures ∙ on))

pub returns : goal.returns
returns c =
    let d = c.args.dimension.now in
    sym (found-none (is_total_over d c.args.leaves.now) (length d.elements) (λ k low. c.each.invariant k (omega (arith, low, c.each-test.false, c.len-element-end.ensures.len))))
