use Rattle.std.proofs.Common.{◌∙◌, ◌++◌, ◌∷◌, [], ap, map, take}
use Rattle.rule_model.specs.Inside.Words.{leaf_words}
use Rattle.rule_model.proofs.OpenFacts.{map_more}
use Rattle.rule_model.proofs.words.words_of_statements.Goals as goal

pub each-preserved : goal.each-preserved
each-preserved c =
    c.in_ok-push.ensures.items
    ∙ ap (λ before. before ++ c.words_of_leaf.result ∷ []) c.each.invariant
    ∙ ap (λ one. map leaf_words (take c.each.place c.args.statements.now) ++ one ∷ []) c.words_of_leaf.ensures
    ∙ map_more leaf_words c.args.statements.now c.each.place c.index-statements-place.result c.each-test.true c.index-statements-place.is
