use Rattle.std.proofs.Common.{◌<◌, ◌≤◌, ◌∙◌, arith, ap, length}
use Rattle.cube_space.specs.Layout.{sizes}
use Rattle.order_laws.proofs.CellFacts.{axes-sizes}
use Rattle.rule_notes.proofs.OwnFacts.{args-more, args-done}
use Rattle.rule_notes.proofs.own.own_reference.Goals as goal

pub each-preserved : goal.each-preserved
each-preserved c =
    let space = c.args.model.now.space in
    let low : c.each.place < length (sizes space c.args.cube) = omega (arith, c.each-test.true, c.axis_count-count.ensures.count, axes-sizes space c.args.cube) in
    args-more (sizes space c.args.cube) c.each.place c.each.args.items c.push.new.self.items c.own_arg.result low c.in_ok-push.ensures.items c.own_arg.ensures c.each.invariant

pub returns : goal.returns
returns c =
    let space = c.args.model.now.space in
    let past : length (sizes space c.args.cube) ≤ c.each.place = omega (arith, c.each-test.false, c.axis_count-count.ensures.count, axes-sizes space c.args.cube) in
    ap (λ args. record { cube = c.args.cube; args = args }) (c.new.ensures ∙ args-done (sizes space c.args.cube) c.each.place c.each.args.items past c.each.invariant)
