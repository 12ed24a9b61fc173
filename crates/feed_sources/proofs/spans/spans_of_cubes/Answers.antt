use Rattle.std.proofs.Common.{◌≡◌, ◌+◌, ◌<◌, ◌∙◌, [], ◌∷◌, ◌++◌, ap, sym, take, length, arith}
use Rattle.std.proofs.lemmas.List.{take_more}
use Rattle.std.proofs.lemmas.Slice.Zip.{all_zipped_more}
use Rattle.cube_space.specs.Layout.{Layout}
use Rattle.rule_model.specs.declared.rules.CubeRules.{CubeRules}
use Rattle.rule_model.specs.BoundModel.{no_rules}
use Rattle.feed_sources.specs.Inside.Tables.{AreSpansOf}
use Rattle.feed_sources.proofs.spans.spans_of_cubes.Goals as goal

pub each-preserved : goal.each-preserved
each-preserved c =
    let rules = c.args.model.now.rules in
    let cubes : c.cubes-cube-end.result ≡ length c.args.model.now.space.cubes = c.cubes-cube-end.ensures ∙ ap (λ (l : Layout). length l.cubes) c.space-space.ensures.space in
    let low : c.each.cube < length rules = omega (arith, c.each-test.true, cubes, c.space-space.ensures.rules.each_cube) in
    let more : take (c.each.cube + 1) rules ≡ take c.each.cube rules ++ c.rules.result.now ∷ [] = take_more rules c.each.cube no_rules low ∙ ap (λ (r : CubeRules). take c.each.cube rules ++ r ∷ []) (sym c.rules.ensures) in
    rw (c.in_ok-push.ensures.items, more)
    (all_zipped_more AreSpansOf (take c.each.cube rules) c.each.ends.items c.rules.result.now c.in_ok-spans_of.field-0 c.each.invariant (rw c.as_slice-feeders.ensures at c.in_ok-spans_of.ensures))
