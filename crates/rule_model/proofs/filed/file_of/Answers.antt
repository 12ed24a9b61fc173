use Rattle.std.proofs.Common.{◌∙◌, sym, ap, subst, rules}
use Rattle.std.proofs.lemmas.List.Sorted.{IsNonDecreasingBy-from_sort_by_key, answers_always}
use Rattle.rule_model.specs.declared.filed.FiledFeeder.{FiledFeeder}
use Rattle.rule_model.specs.Inside.Files.{IsFile, of_number}
use Rattle.rule_model.proofs.Filing.{sorted_same}
use Rattle.rule_model.proofs.filed.file_of.Goals as goal

pub returns : goal.returns
returns c =
    let rising = IsNonDecreasingBy-from_sort_by_key (λ (f : FiledFeeder). f.key) _ c.in_ok-sort_by_key.ensures.sorted (λ a r q k. search rules) in
    let stable = c.in_ok-sort_by_key.ensures.stable (λ (f : FiledFeeder). f.key) (answers_always _ _ _ (λ f a r q called. search rules)) in
    subst (IsFile c.args.space.now c.args.feeders.now) (sym c.new.ensures)
    (record { rising = rising; same = λ key. sorted_same _ _ stable key ∙ ap (λ fs. of_number fs key) c.in_ok-file.ensures })
