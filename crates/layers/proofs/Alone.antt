-- What a user is told follows from the writes of the history, the places and the user's commands.
use Rattle.std.proofs.Common.{◌≡◌, ℕ, ◌+◌, zero, suc, List, [], ◌∷◌, refl, ap, sym, ◌∙◌}
use Rattle.history.specs.declared.entry.Entry.{Entry}
use Rattle.history.specs.declared.told.Told.{Told}
use Rattle.history.specs.declared.effect.Effect.{Effect}
use Rattle.history.specs.Version.{version}
use Rattle.history.specs.UserRun.{reply_of, least_after, ToldFrom}
use Rattle.layers.specs.Layered.{effect_of, layered, LayeredSoFar, told_at, places_in, writes_in}

module _ {R : Type 0} where
  abbrev told_of : ℕ → R → Told R
  told_of place reply = record { place = place; reply = reply }

  pub told_same : (a b : Told R) → a.place ≡ b.place → a.reply ≡ b.reply → a ≡ b
  told_same a b places replies = ap (λ (p : ℕ). told_of p a.reply) places ∙ ap (λ (r : R). told_of b.place r) replies

head_same : {A : Type 0} (a b : A) (xs ys : List A) → a ∷ xs ≡ b ∷ ys → a ≡ b
head_same a b xs ys same = cc

tail_same : {A : Type 0} (a b : A) (xs ys : List A) → a ∷ xs ≡ b ∷ ys → xs ≡ ys
tail_same a b xs ys same = cc

-- a version follows from the writes before it
same_version : {C T : Type 0} (after : C → T → C) (first : C) (log other : List (Entry T)) → writes_in log ≡ writes_in other
    → (place : ℕ) → version after first log place ≡ version after first other place
same_version after first [] [] same place = refl
same_version after first [] (entry ∷ other) same place = absurd (cc same)
same_version after first (entry ∷ log) [] same place = absurd (cc same)
same_version after first (entry ∷ log) (one ∷ other) same zero = refl
same_version after first (entry ∷ log) (one ∷ other) same (suc place) =
    same_version after (after first entry.writes) log other (tail_same _ _ _ _ same) place
    ∙ ap (λ w. version after (after first w) other place) (head_same _ _ _ _ same)

module _ {C L K T R : Type 0} (answer : C → L → K → Effect T R × L) where
  -- the same versions, the same replies
  told_at_same : (versions others : ℕ → C) → ((place : ℕ) → versions place ≡ others place) → (layer : L) (places : List ℕ) (commands : List K)
      → told_at answer versions layer places commands ≡ told_at answer others layer places commands
  told_at_same versions others same layer [] commands = refl
  told_at_same versions others same layer (place ∷ places) [] = refl
  told_at_same versions others same layer (place ∷ places) (command ∷ commands) =
      let rest = told_at_same versions others same (answer (versions place) layer command).1 places commands in
      ap (λ (ts : List (Told R)). told_of place (reply_of (answer (versions place) layer command).0) ∷ ts) rest
      ∙ ap (λ (c : C). told_of place (reply_of (answer c layer command).0) ∷ told_at answer others (answer c layer command).1 places commands) (same place)

  module _ (after : C → T → C) (first : C) where
    determined_from : (log : List (Entry T)) (user number least : ℕ) (layer : L) (told : List (Told R)) (commands : List K)
        → ToldFrom (effect_of answer) after first log user number least told (layered answer after first log layer told commands)
        → told ≡ told_at answer (version after first log) layer (places_in told) commands
    determined_from log user number least layer [] commands t = refl
    determined_from log user number least layer (one ∷ told) [] t = absurd t
    determined_from log user number least layer (one ∷ told) (command ∷ commands) t =
        let found = effect_of answer (version after first log one.place) (layer, command) in
        let next = (answer (version after first log one.place) layer command).1 in
        let rest = determined_from log user (number + 1) (least_after found one.place) next told commands t.4 in
        let here : one ≡ told_of one.place (reply_of found) = told_same one (told_of one.place (reply_of found)) refl t.2 in
        ap (λ (ts : List (Told R)). one ∷ ts) rest
        ∙ ap (λ (x : Told R). x ∷ told_at answer (version after first log) next (places_in told) commands) here

    pub determined : (log : List (Entry T)) (user : ℕ) (layer : L) (told : List (Told R)) (commands : List K)
        → LayeredSoFar answer after first log user layer told commands → told ≡ told_at answer (version after first log) layer (places_in told) commands
    determined log user layer told commands run = determined_from log user 1 0 layer told commands run

    pub seen_alone : (log other : List (Entry T)) (user else : ℕ) (layer : L) (told replies : List (Told R)) (commands : List K)
        → LayeredSoFar answer after first log user layer told commands → LayeredSoFar answer after first other else layer replies commands
        → writes_in log ≡ writes_in other → places_in told ≡ places_in replies → told ≡ replies
    seen_alone log other user else layer told replies commands run ran writes places =
        determined log user layer told commands run
        ∙ ap (λ (ps : List ℕ). told_at answer (version after first log) layer ps commands) places
        ∙ told_at_same (version after first log) (version after first other) (same_version after first log other writes) layer (places_in replies) commands
        ∙ sym (determined other else layer replies commands ran)
