use Rattle.std.proofs.Common.{get_or}
use Rattle.std.proofs.lemmas.List.{get_or_default}
use Rattle.least_ranks.specs.declared.arrow.Step.{Step}
use Rattle.order_find.proofs.Linked.{links-more, links-done}
use Rattle.order_find.proofs.circle.links.Goals as goal

pub each-preserved : goal.each-preserved
each-preserved c =
    let steps = c.args.steps.now in
    let none : Step = record { node = 0; slot = 0 } in
    let step = get_or steps c.each.k none in
    links-more c.args.graph.now steps c.each.k step c.each.links.items c.add_link.new.links.items c.step_after.result c.each-test.true (get_or_default steps c.each.k none step c.each-test.true)
    c.step_after.ensures c.in_ok-add_link.ensures c.each.invariant

pub returns : goal.returns
returns c = links-done c.args.graph.now c.args.steps.now c.each.k c.each.links.items c.each-test.false c.each.invariant
