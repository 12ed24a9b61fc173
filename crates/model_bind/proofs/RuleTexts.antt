-- The texts of the first cubes, with that of one cube more.
use Rattle.std.proofs.Common.{◌≡◌, ◌∙◌, ℕ, ◌+◌, ◌<◌, List, [], ◌∷◌, ◌++◌, length, take, drop, slice_index_or, All, Option, None, Result, Err, IsErrAnd, sym, ap, subst, arith}
use Rattle.std.proofs.lemmas.List.{take_more, drop_more, take-append-drop, get_or-take}
use Rattle.std.proofs.lemmas.List.Elements.{All-push}
use Rattle.rule_tree.specs.Sizes.{IsWithinLimits}
use Rattle.rule_tree.specs.declared.rule.RuleText.{RuleText}
use Rattle.model_bind.specs.Files.{RuleFile}
use Rattle.model_bind.specs.Rules.{no_text, text_stage}
use Rattle.model_bind.specs.Stages.{each, Comes}
use Rattle.model_bind.specs.declared.fault.DeployFault.{DeployFault}
use Rattle.model_bind.specs.Inside.Shared.{IsEarlier}
use Rattle.model_bind.proofs.Stages.{AreFound, all-found, as-many, comes-refused, found-at, one-more, place-at}

-- the first files have these texts
pub record AreTexts (files : List (Option RuleFile)) (count : ℕ) (texts : List RuleText) : Type 0 where
  pub found : AreFound (λ _. text_stage) 0 (take count files) texts
  pub within : All IsWithinLimits texts

module _ (files : List (Option RuleFile)) (cube : ℕ) (texts : List RuleText) (low : cube < length files) (are : AreTexts files cube texts) where
  more : take (cube + 1) files ≡ take cube files ++ slice_index_or files cube None ∷ []
  more = take_more files cube None low

  pub as-many-texts : length texts ≡ cube
  as-many-texts =
      as-many (λ _. text_stage) 0 (take cube files) texts (all-found (λ _. text_stage) 0 (take cube files) texts are.found) ∙ sym (place-at files cube low)

  -- the text of its own file
  pub text-more : (text : RuleText) (later : List RuleText) → (text_stage (slice_index_or files cube None)).finds text → IsWithinLimits text → later ≡ texts ++ text ∷ [] → AreTexts files (cube + 1) later
  text-more text later is within longer = rw longer (record {
    found = subst (λ l. AreFound (λ _. text_stage) 0 l (texts ++ text ∷ [])) (sym more) (one-more (λ _. text_stage) 0 (take cube files) texts (slice_index_or files cube None) text are.found is);
    within = All-push IsWithinLimits texts text are.within within;
  })

  -- the text of the file that it shares
  pub text-shared : (earlier : ℕ) (later : List RuleText) → IsEarlier files cube earlier → later ≡ texts ++ slice_index_or texts earlier no_text ∷ [] → AreTexts files (cube + 1) later
  text-shared earlier later is longer =
      let before = is.before in
      let there : earlier < length (take cube files) = omega (arith, before, place-at files cube low) in
      let same : slice_index_or (take cube files) earlier None ≡ slice_index_or files cube None = get_or-take cube files earlier None before ∙ is.same in
      let finds = subst (λ f. (text_stage f).finds (slice_index_or texts earlier no_text)) same (found-at (λ _. text_stage) 0 earlier (take cube files) texts None no_text are.found there) in
      text-more (slice_index_or texts earlier no_text) later finds (are.within earlier no_text (omega (arith, before, as-many-texts))) longer

  -- it has none
  pub text-refused : (fault : DeployFault) (answer : Result (List RuleText) DeployFault) → Comes (text_stage (slice_index_or files cube None)) (Err fault) → IsErrAnd answer (λ e. e ≡ fault)
      → Comes (each (λ _. text_stage) 0 files) answer
  text-refused fault answer came is =
      let parts = sym (take-append-drop cube files) ∙ ap (λ rest. take cube files ++ rest) (drop_more files cube None low) in
      comes-refused (λ _. text_stage) files (take cube files) (drop (cube + 1) files) texts (slice_index_or files cube None) cube fault answer parts (place-at files cube low) are.found came is
