-- Whether words ask for an explanation is told by their plan.
use Rattle.std.proofs.Common.{◌≡◌, ℕ, List, Option, None, inl, inr, IfOk, Result, Ok, Err}
use Rattle.cube_server.specs.Answer.{AskToExplain, HasNoPlan, IsRefusalText}
use Rattle.cube_server.specs.Inside.Explaining.{explained, IsTextFor}
use Rattle.cube_words.specs.Words.{Plan, Run, Check, Explain, Feeders, Sample, IsPlan}
use Rattle.file_passes.specs.Pass.{Readings}
use Rattle.file_passes.specs.declared.refusal.Refusal.{Refusal}
use Rattle.run_passes.proofs.PlanWords.{one_plan}

module _ (words : List (List ℕ)) (readings : Readings) (refusal : Refusal) (text : List ℕ) where
  pub planned : (plan : Plan) → IsPlan words plan → IsTextFor readings refusal (explained plan) text → IsRefusalText words readings refusal text
  planned (Explain model users) is told = inr (model, (users, is), told)
  planned (Run model users) is told = inl ((λ other asks. let same = one_plan words (Run model users) (Explain other asks.0) is asks.1 in cc), told)
  planned (Check model) is told = inl ((λ other asks. let same = one_plan words (Check model) (Explain other asks.0) is asks.1 in cc), told)
  planned (Feeders model) is told = inl ((λ other asks. let same = one_plan words (Feeders model) (Explain other asks.0) is asks.1 in cc), told)
  planned (Sample size) is told = inl ((λ other asks. let same = one_plan words (Sample size) (Explain other asks.0) is asks.1 in cc), told)

  pub unplanned : HasNoPlan words → IsTextFor readings refusal None text → IsRefusalText words readings refusal text
  unplanned none told = inl ((λ model asks. none (Explain model asks.0) asks.1), told)

-- the same of a text that is made, where memory lasted
pub if-made : {A E : Type 0} (made : Result A E) (bytes : A → List ℕ) (told : List ℕ → Type 0) (words : List (List ℕ)) (readings : Readings) (refusal : Refusal)
    → ((text : List ℕ) → told text → IsRefusalText words readings refusal text) → IfOk made (λ x. told (bytes x)) → IfOk made (λ x. IsRefusalText words readings refusal (bytes x))
if-made (Ok x) bytes told words readings refusal step is = step (bytes x) is
if-made (Err e) bytes told words readings refusal step is = tt
