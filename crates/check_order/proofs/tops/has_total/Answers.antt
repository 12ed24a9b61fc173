use Rattle.std.proofs.Common.{sym, ◌∙◌, arith}
use Rattle.check_order.proofs.KindTops.{has-total, no-total}
use Rattle.check_order.proofs.tops.has_total.Goals as goal

pub returns-then-is_taken : goal.returns-then-is_taken
returns-then-is_taken c =
    sym (has-total c.args.dimension.now c.each.element (omega (arith, c.each-test.true, c.len-element-end.ensures.len)) (sym c.is_taken.ensures ∙ c.if-is_taken.true))

pub returns : goal.returns
returns c = sym (no-total c.args.dimension.now (λ k low. c.each.invariant k (omega (arith, low, c.each-test.false, c.len-element-end.ensures.len))))
