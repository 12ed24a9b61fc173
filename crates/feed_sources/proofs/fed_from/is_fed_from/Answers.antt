use Rattle.std.proofs.Common.{◌+◌, ap, arith, length, Ok, ◌<◌}
use Rattle.cube_space.specs.Layout.{Layout}
use Rattle.feed_sources.proofs.BackFacts.{cube-feeds, none-feeds, none-next}
use Rattle.feed_sources.proofs.StepFacts.{spent-cubes, short-cubes, where-err}
use Rattle.feed_sources.proofs.fed_from.is_fed_from.Goals as goal

pub returns-then-branch-clause-fed : goal.returns-then-branch-clause-fed
returns-then-branch-clause-fed g c = λ _.
    let found = c.in_ok-is_fed_from_cube.ensures.fed (ap Ok c.if-branch.true) in
    (found.0, found.1, cube-feeds c.args.model.now c.args.cell (g.W.CellSet.cells c.args.live.now) found.0 c.each.cube found.2)

pub each-preserved : goal.each-preserved
each-preserved g c = record {
  none = none-next c.args.model.now c.args.cell (g.W.CellSet.cells c.args.live.now) c.each.cube c.each.invariant.none (c.in_ok-is_fed_from_cube.ensures.none (ap Ok c.if-branch.false));
  steps = (let s = c.in_ok-is_fed_from_cube.ensures.steps in omega (arith, s, c.each.invariant.steps));
  spent = spent-cubes c.args.model.now c.each.cube c.args.steps.now c.each.steps c.is_fed_from_cube.new.steps (1 + length (g.W.CellSet.cells c.args.live.now)) c.each.invariant.spent c.in_ok-is_fed_from_cube.ensures.spent;
}

pub returns-clause-none : goal.returns-clause-none
returns-clause-none g c = λ _.
    none-feeds c.args.model.now c.args.cell (g.W.CellSet.cells c.args.live.now) c.each.cube
    (omega (arith, c.each-test.false, c.cubes-cube-end.ensures, ap (λ (l : Layout). length l.cubes) c.space.ensures.space)) c.each.invariant.none

pub returns-in_err-is_fed_from_cube-clause-enough : goal.returns-in_err-is_fed_from_cube-clause-enough
returns-in_err-is_fed_from_cube-clause-enough g c = where-err _
    (let low : c.each.cube < length c.args.model.now.space.cubes = omega (arith, c.each-test.true, c.cubes-cube-end.ensures, ap (λ (l : Layout). length l.cubes) c.space.ensures.space) in
    short-cubes c.args.model.now c.each.cube c.args.steps.now c.each.steps (1 + length (g.W.CellSet.cells c.args.live.now)) low c.each.invariant.spent c.in_err-is_fed_from_cube.ensures.enough)
