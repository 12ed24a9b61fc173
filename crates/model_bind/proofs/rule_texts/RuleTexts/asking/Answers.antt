use Rattle.std.proofs.Common.{◌≡◌, ℕ, ◌+◌, ◌<◌, Bool, List, [], ◌∷◌, ◌++◌, length, map, take, Some, sym, ap, ◌∙◌, refl, add-one, take-suc}
use Rattle.std.specs.Prelude.{slice_get, slice_index_or}
use Rattle.std.proofs.lemmas.List.{map_push}
use Rattle.std.proofs.lemmas.Option.{slice_get_within, get_or_from_slice_get}
use Rattle.rule_tree.specs.declared.rule.RuleText.{RuleText}
use Rattle.model_bind.specs.Rules.{asking}
use Rattle.model_bind.proofs.rule_texts.RuleTexts.asking.Goals as goal

-- one text more
longer : (texts : List RuleText) (i : ℕ) (text : RuleText) → slice_get texts i ≡ Some text → asking (take i texts) ++ text.finds_feeders ∷ [] ≡ asking (take (i + 1) texts)
longer texts i text is =
    let low = slice_get_within texts i text is in
    let more : take (i + 1) texts ≡ take i texts ++ text ∷ [] = rw (add-one, take-suc texts i text low, get_or_from_slice_get texts i text text is) refl in
    sym (ap asking more ∙ map_push (λ (t : RuleText). t.finds_feeders) (take i texts) text)

pub loop-cube-preserved : goal.loop-cube-preserved
loop-cube-preserved c =
    c.in_ok-push.ensures.items ∙ ap (λ (flags : List Bool). flags ++ c.of_cube.result.now.finds_feeders ∷ []) c.loop-cube.invariant
    ∙ longer c.args.self.now c.loop-cube.cube c.of_cube.result.now c.of_cube.ensures
