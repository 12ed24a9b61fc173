use Rattle.std.proofs.Common.{◌<◌, sym, subst, arith, length}
use Rattle.cube_space.specs.Layout.{Layout, axes}
use Rattle.feed_turn.proofs.Places.{size-at, axis-here}
use Rattle.feed_turn.proofs.source.moved_set.Goals as goal

pub axis-dimension-requires-clause-place : goal.axis-dimension-requires-clause-place
axis-dimension-requires-clause-place c =
    subst (λ (l : Layout). c.args.place < length (axes l c.args.view.reference.now.cube)) (sym c.space.ensures.space) c.requires.moved.its

pub named_set-requires : goal.named_set-requires
named_set-requires c = λ leaf element goes.
    let view = c.args.view in
    let at = axis-here c.space.result.now view.model.now.space view.reference.now.cube c.args.place c.axis-dimension.result.now c.space.ensures.space c.axis-dimension.ensures in
    omega (arith, c.requires.moved.sends leaf element goes, size-at (axes view.model.now.space view.reference.now.cube) c.args.place c.axis-dimension.result.now at)
