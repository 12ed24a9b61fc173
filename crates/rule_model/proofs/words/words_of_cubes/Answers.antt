use Rattle.std.proofs.Common.{◌∙◌, ◌++◌, ◌∷◌, [], sym, ap, map, take}
use Rattle.rule_model.specs.Inside.Words.{leaf_words, rule_words}
use Rattle.rule_model.proofs.OpenFacts.{map_more}
use Rattle.rule_model.proofs.words.words_of_cubes.Goals as goal

pub each-preserved : goal.each-preserved
each-preserved c =
    c.in_ok-push.ensures.items
    ∙ ap (λ before. before ++ c.in_ok-of_cube.of_cube ∷ []) c.each.invariant
    ∙ ap (λ one. map rule_words (take c.each.place c.args.cubes.now) ++ one ∷ []) (c.in_ok-of_cube.ensures ∙ ap (map leaf_words) c.as_slice.ensures ∙ ap rule_words (sym c.index-cubes-place.is))
    ∙ map_more rule_words c.args.cubes.now c.each.place c.index-cubes-place.result c.each-test.true c.index-cubes-place.is
