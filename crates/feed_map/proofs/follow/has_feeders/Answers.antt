use Rattle.std.proofs.Common.{◌<◌, length, List, ap, subst, arith}
use Rattle.std.specs.List.{Contains}
use Rattle.cube_space.specs.Layout.{Layout}
use Rattle.cube_space.specs.Cells.{cube_of}
use Rattle.rule_model.specs.declared.rules.Feeder.{Feeder}
use Rattle.feed_sources.proofs.Members.{none-there}
use Rattle.feed_sources.proofs.FeederFacts.{feeds-some, feeds-cube}
use Rattle.feed_map.proofs.follow.has_feeders.Goals as goal

pub returns : goal.returns
returns c _ x y feeds =
    let some = feeds-some c.args.model.now x y feeds in
    let there = feeds-cube c.args.model.now x y feeds in
    let low : cube_of c.args.model.now.space x < c.each.cube = omega (arith, there, c.each-test.false, c.cubes-cube-end.ensures, ap (λ (l : Layout). length l.cubes) c.space.ensures.space) in
    none-there some.0 (subst (λ (fs : List Feeder). Contains fs some.0) (c.each.invariant (cube_of c.args.model.now.space x) low) some.1)
