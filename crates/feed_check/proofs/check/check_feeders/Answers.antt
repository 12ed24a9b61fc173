use Rattle.std.proofs.Common.{rules, ◌+◌, ◌<◌, arith, refl, length}
use Rattle.feed_check.specs.Verdict.{IsSound}
use Rattle.feed_check.proofs.Verdicts.{err-holds, fault-refused, next-sound, sound-covered}
use Rattle.feed_check.proofs.check.check_feeders.Goals as goal

pub returns-in_err-check_cube-clause-refused : goal.returns-in_err-check_cube-clause-refused
returns-in_err-check_cube-clause-refused c =
    let there : c.each.cube < length c.args.model.now.space.cubes = search rules in
    err-holds c.from_residual.result _ (fault-refused c.args.model.now c.in_err-check_cube.field-0.0 (c.each.cube, there, c.in_err-check_cube.ensures.fault, c.each.invariant))

pub each-preserved : goal.each-preserved
each-preserved c =
    let sound : IsSound c.args.model.now c.each.cube = search rules in
    next-sound c.args.model.now c.each.cube (c.each.cube + 1) c.each.invariant sound refl

pub returns-clause-covered : goal.returns-clause-covered
returns-clause-covered c = sound-covered c.args.model.now (λ cube low. c.each.invariant cube (search (rules, arith)))
