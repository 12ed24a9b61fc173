use Rattle.std.proofs.Common.{◌≡◌, sym, ap, ◌∙◌, subst, arith, List, Option, Some, ℕ, length}
use Rattle.rule_model.specs.Areas.{in_source_set}
use Rattle.rule_model.specs.Conditions.{IsSet}
use Rattle.feed_sources.proofs.AboveFacts.{row-counts}
use Rattle.feed_sources.proofs.source.in_source_set.Goals as goal

pub returns-else-listed-elements : goal.returns-else-listed-elements
returns-else-listed-elements c = λ d weights above.
    let whole : c.args.set.now ≡ Some c.as_slice-listed.result.now = c.in-Some.is ∙ ap Some (sym c.as_slice-listed.ensures) in
    let set : IsSet (length c.args.weights.now) (Some c.as_slice-listed.result.now) = subst (IsSet (length c.args.weights.now)) whole c.requires.set in
    row-counts d c.args.above.now c.args.leaf c.of_leaf-elements.result.now c.as_slice-listed.result.now c.is_one_listed.result above (omega (arith, c.requires.leaf, c.requires.above)) c.of_leaf-elements.ensures
    (λ k x low. (let less = set.1 k x low in omega (arith, less, c.requires.above))) c.is_one_listed.ensures.one c.is_one_listed.ensures.none
    ∙ ap (λ (s : Option (List ℕ)). in_source_set d s c.args.leaf) (sym whole)
