use Rattle.std.proofs.Common.{sym, ◌∙◌, arith}
use Rattle.cube_space.specs.Layout.{axes}
use Rattle.check_order.proofs.KindTops.{elsewhere-here, elsewhere-none}
use Rattle.check_order.proofs.tops.has_total_elsewhere.Goals as goal

pub returns-then-has_total : goal.returns-then-has_total
returns-then-has_total c =
    sym (elsewhere-here (axes c.args.space.now c.args.cube) c.args.place c.each.dim c.axis.result.now c.axis.ensures (sym c.is_at.ensures ∙ c.if-not-is_at.true) (sym c.has_total.ensures ∙ c.if-has_total.true))

pub returns : goal.returns
returns c = sym (elsewhere-none (axes c.args.space.now c.args.cube) c.args.place (λ k low. c.each.invariant k (omega (arith, low, c.each-test.false, c.axis_count-dim-end.ensures.value))))
