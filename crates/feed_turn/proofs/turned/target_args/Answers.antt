use Rattle.std.proofs.Common.{◌<◌, ◌∙◌, Some, ap, sym, arith, length}
use Rattle.cube_space.specs.Layout.{Layout, axes}
use Rattle.feed_turn.specs.Turning.{target_arg, target_args}
use Rattle.feed_turn.specs.Views.{turn_of}
use Rattle.feed_turn.proofs.Steps.{args-more, args-gap}
use Rattle.feed_turn.proofs.turned.target_args.Goals as goal

pub returns-in-None-clause-args : goal.returns-in-None-clause-args
unfolding target_args
returns-in-None-clause-args c =
    let view = c.args.view in
    let low : c.each.dim < length (axes view.model.now.space view.cube) = omega (arith, c.each-test.true, c.axis_count-dim-end.ensures.value, ap (λ (l : Layout). length (axes l view.cube)) c.space.ensures.space) in
    args-gap (target_arg (turn_of view)) (length (axes view.model.now.space view.cube)) c.each.dim low (sym c.in_ok-arg.ensures.arg ∙ c.in-None.is)

pub each-preserved : goal.each-preserved
each-preserved c =
    let view = c.args.view in
    record {
      found = args-more (target_arg (turn_of view)) c.each.dim c.each.args.items c.in-Some.arg (sym c.in_ok-arg.ensures.arg ∙ c.in-Some.is) c.each.invariant.found ∙ ap Some (sym c.in_ok-push-in-Some.ensures.items);
      turns = c.in_ok-arg.ensures.turns;
    }
