use Rattle.std.proofs.Common.{◌∙◌, ◌&&◌, sym, arith, length}
use Rattle.bind_order.specs.Inside.Breaks.{breaks_at, is_of_kind, has_leaf, has_pair}
use Rattle.bind_order.proofs.ListFacts.{any_more, any_stops, any_done}
use Rattle.bind_order.proofs.leaf_cells.has_pair.Goals as goal

pub returns-then-element_breaks : goal.returns-then-element_breaks
unfolding has_pair
returns-then-element_breaks c =
    any_stops (λ x. is_of_kind c.args.kind c.args.dimension.now x && has_leaf (breaks_at c.args.front.now c.args.last.now c.args.place) c.args.dimension.now x) (length c.args.dimension.now.elements) c.loop-element.element _
    (omega (arith, c.loop-element-test.true, c.len-element-end.ensures.len)) (sym c.element_breaks.ensures ∙ c.if-element_breaks.true) c.loop-element.invariant

pub loop-element-preserved : goal.loop-element-preserved
loop-element-preserved c =
    any_more (λ x. is_of_kind c.args.kind c.args.dimension.now x && has_leaf (breaks_at c.args.front.now c.args.last.now c.args.place) c.args.dimension.now x) (length c.args.dimension.now.elements) c.loop-element.element _
    (omega (arith, c.loop-element-test.true, c.len-element-end.ensures.len)) (sym c.element_breaks.ensures ∙ c.if-element_breaks.false) c.loop-element.invariant

pub returns : goal.returns
unfolding has_pair
returns c =
    any_done (λ x. is_of_kind c.args.kind c.args.dimension.now x && has_leaf (breaks_at c.args.front.now c.args.last.now c.args.place) c.args.dimension.now x) (length c.args.dimension.now.elements) c.loop-element.element _
    (omega (arith, c.loop-element-test.false, c.len-element-end.ensures.len)) c.loop-element.invariant
