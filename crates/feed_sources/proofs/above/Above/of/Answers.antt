use Rattle.std.proofs.Common.{arith}
use Rattle.feed_sources.proofs.AboveFacts.{above-more, above-done}
use Rattle.feed_sources.proofs.above.Above.of.Goals as goal

pub each-preserved : goal.each-preserved
each-preserved c =
    above-more c.args.weights.now c.each.element c.each.rows.items c.add_element.new.rows.items c.each.invariant (rw c.leaves.ensures.pairs at c.in_ok-add_element.ensures)

pub returns : goal.returns
returns c =
    above-done c.args.dimension.now c.args.weights.now c.each.element c.each.rows.items c.requires (omega (arith, c.each-test.false, c.len-element-end.ensures.len))
    (omega (arith, c.each.auto.element-end, c.len-element-end.ensures.len)) c.each.invariant
