-- Layered histories of all users, and each user's run of one.
use Rattle.std.proofs.Common.{◌≡◌, ℕ, ◌+◌, zero, suc, List, [], ◌∷◌, length, Some, refl, ap, sym, ◌∙◌, subst}
use Rattle.std.specs.List.{slice_get}
use Rattle.history.specs.declared.entry.Entry.{Entry}
use Rattle.history.specs.declared.told.Told.{Told}
use Rattle.history.specs.declared.effect.Effect.{Effect}
use Rattle.history.specs.UserRun.{UserRun}
use Rattle.history.specs.LegalHistory.{HasUsers}
use Rattle.history.proofs.Histories.{runs_history}
use Rattle.lists.proofs.Found.{none_some, some_same}
use Rattle.layers.specs.Layered.{effect_of, layered, all_layered, IsLayeredHistoryOf}
use Rattle.layers.specs.Laws.{EachLayeredRun}

module _ {C L K T R : Type 0} (answer : C → L → K → Effect T R × L) (after : C → T → C) (first : C) (log : List (Entry T)) (layer : L) where
  all_length : (told : List (List (Told R))) (users : List (List K)) → length (all_layered answer after first log layer told users) ≡ length users
  all_length told [] = refl
  all_length [] (commands ∷ users) = ap suc (all_length [] users)
  all_length (replies ∷ told) (commands ∷ users) = ap suc (all_length told users)

  -- the commands of a user with their layers stand where the user's commands and replies stand
  all_at : (told : List (List (Told R))) (users : List (List K)) (index : ℕ) (commands : List K) (replies : List (Told R))
      → slice_get users index ≡ Some commands → slice_get told index ≡ Some replies
      → slice_get (all_layered answer after first log layer told users) index ≡ Some (layered answer after first log layer replies commands)
  all_at told [] index commands replies is at = absurd (none_some is)
  all_at [] (ks ∷ users) index commands replies is at = absurd (none_some at)
  all_at (ts ∷ told) (ks ∷ users) zero commands replies is at =
      ap (λ (xs : List K). Some (layered answer after first log layer ts xs)) (some_same is) ∙ ap (λ (xs : List (Told R)). Some (layered answer after first log layer xs commands)) (some_same at)
  all_at (ts ∷ told) (ks ∷ users) (suc index) commands replies is at = all_at told users index commands replies is at

  -- and what stands there is a user's
  all_of : (told : List (List (Told R))) (users : List (List K)) (index : ℕ) (pairs : List (L × K)) (replies : List (Told R))
      → slice_get (all_layered answer after first log layer told users) index ≡ Some pairs → slice_get told index ≡ Some replies
      → (commands : List K) × (slice_get users index ≡ Some commands) × (layered answer after first log layer replies commands ≡ pairs)
  all_of told [] index pairs replies is at = absurd (none_some is)
  all_of [] (ks ∷ users) index pairs replies is at = absurd (none_some at)
  all_of (ts ∷ told) (ks ∷ users) zero pairs replies is at =
      (ks, refl, ap (λ (xs : List (Told R)). layered answer after first log layer xs ks) (sym (some_same at)) ∙ some_same is)
  all_of (ts ∷ told) (ks ∷ users) (suc index) pairs replies is at = all_of told users index pairs replies is at

  pub layered_history : (users : List (List K)) (told : List (List (Told R))) → length told ≡ length users → HasUsers (length users) log
      → EachLayeredRun answer after first layer users told log → IsLayeredHistoryOf answer after first layer users told log
  layered_history users told all known runs =
      let many : length (all_layered answer after first log layer told users) ≡ length users = all_length told users in
      runs_history (effect_of answer) after first (all_layered answer after first log layer told users) told log
      (all ∙ sym many)
      (subst (λ (n : ℕ). HasUsers n log) (sym many) known)
      (λ index pairs replies is at.
      let own = all_of told users index pairs replies is at in
      subst (λ (ks : List (L × K)). UserRun (effect_of answer) after first log (index + 1) replies ks) own.2 (runs index own.0 replies own.1 at))

  pub layered_runs : (users : List (List K)) (told : List (List (Told R))) → IsLayeredHistoryOf answer after first layer users told log
      → (length told ≡ length users) × EachLayeredRun answer after first layer users told log
  layered_runs users told history =
      (history.all ∙ all_length told users, λ index commands replies is at. history.runs index (layered answer after first log layer replies commands) replies (all_at told users index commands replies is at) at)
