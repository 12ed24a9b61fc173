use Rattle.std.proofs.Common.{◌≡◌, ◌∙◌, refl, sym, ap, subst, arith, length, Option, Some, List, ℕ, get_or}
use Rattle.rule_model.specs.Areas.{in_source_set}
use Rattle.rule_model.specs.Conditions.{IsSet}
use Rattle.feed_sources.proofs.ChoiceFacts.{listed-alone}
use Rattle.feed_sources.proofs.choices.only_leaf.Goals as goal

pub returns-then-is_leaf : goal.returns-then-is_leaf
returns-then-is_leaf c = λ other is.
    let d = c.args.dimension.now in
    let listed = c.as_slice-listed.result.now in
    let whole : c.args.set.now ≡ Some listed = c.in-Some.is ∙ ap Some (sym c.as_slice-listed.ensures) in
    let set : IsSet (length d.elements) (Some listed) = subst (IsSet (length d.elements)) whole c.requires in
    let one : length listed ≡ 1 = c.if-listed-eq1.true in
    listed-alone d listed (get_or listed 0 0) other c.len-len.ensures.valid one refl (set.1 0 0 (omega (arith, one))) (c.is_leaf.ensures.0 c.if-is_leaf.true)
    (ap (λ (s : Option (List ℕ)). in_source_set d s other) (sym whole) ∙ is)
