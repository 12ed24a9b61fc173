use Rattle.std.proofs.Common.{◌+◌, ap, length, arith}
use Rattle.cube_space.specs.Layout.{Layout}
use Rattle.rule_laws.specs.Feeding.{IsDenseCell}
use Rattle.rule_model.specs.System.{system_of}
use Rattle.feed_map.specs.Inside.Gains.{StopsBy}
use Rattle.feed_map.specs.Inside.Follows.{IsDenseBelow, IsDenseOf}
use Rattle.feed_map.proofs.GainFacts.{gains-then, gains-as, stops-then, handed-on}
use Rattle.feed_map.proofs.DenseFacts.{dense-before, dense-here, dense-parts, dense-whole}
use Rattle.feed_map.proofs.dense.add_dense.Goals as goal

pub returns-in_err-add_if_dense-clause-stops : goal.returns-in_err-add_if_dense-clause-stops
returns-in_err-add_if_dense-clause-stops c =
    let m = c.args.model.now in
    handed-on c.from_residual.result c.in_err-add_if_dense.field-0.0 (StopsBy (IsDenseCell (system_of m)) c.args.growth.now c.add_if_dense.new.growth) c.from_residual.ensures.1
    (stops-then (IsDenseBelow m c.each.cube) (IsDenseOf m c.each.cube) (IsDenseCell (system_of m)) (λ x is. is.0) (λ x is. (dense-here m c.each.cube x is).0)
    c.args.growth.now c.each.growth c.add_if_dense.new.growth c.in_err-add_if_dense.field-0.0 c.each.invariant.only c.in_err-add_if_dense.ensures.stops)

pub each-preserved : goal.each-preserved
each-preserved c =
    let m = c.args.model.now in
    gains-then (IsDenseBelow m c.each.cube) (IsDenseOf m c.each.cube) (IsDenseBelow m (c.each.cube + 1)) (dense-before m c.each.cube) (dense-here m c.each.cube) (dense-parts m c.each.cube)
    c.args.growth.now c.each.growth c.add_if_dense.new.growth c.each.invariant c.in_ok-add_if_dense.ensures.gains

pub returns-clause-gains : goal.returns-clause-gains
returns-clause-gains c =
    let m = c.args.model.now in
    gains-as (IsDenseBelow m c.each.cube) (IsDenseCell (system_of m)) (λ x is. is.0)
    (dense-whole m c.each.cube (omega (arith, c.each-test.false, c.cubes-cube-end.ensures, ap (λ (l : Layout). length l.cubes) c.space.ensures.space)))
    c.args.growth.now c.each.growth c.each.invariant
