-- Where one user runs, the commands leave one history, and one list of what is told.
use Rattle.std.proofs.Common.{◌≡◌, ℕ, ◌+◌, ◌≤◌, zero, suc, List, [], ◌∷◌, ◌++◌, length, take, Some, refl, ap, sym, ◌∙◌, subst, arith, inl, inr}
use Rattle.std.specs.List.{slice_get}
use Rattle.std.proofs.lemmas.Bool.{cases_lt}
use Rattle.std.proofs.Math.Seq.{take-length}
use Rattle.history.specs.declared.entry.Entry.{Entry}
use Rattle.history.specs.declared.told.Told.{Told}
use Rattle.history.specs.declared.effect.Effect.{Effect}
use Rattle.history.specs.declared.effect.Effect.TheVariants.{Commit, Rejected, Read}
use Rattle.history.specs.Version.{content_after, version, NoneFrom, NoneWithin}
use Rattle.history.specs.UserRun.{reply_of, least_after, Stands, ToldFrom}
use Rattle.history.specs.LegalHistory.{IsLegal, HasUsers, IsHistoryOf}
use Rattle.std.proofs.lemmas.Option.{slice_get_within}
use Rattle.lists.proofs.Found.{none_some, some_same, there}
use Rattle.history.proofs.Runs.{least_after_le, place_le}

take_next : {A : Type 0} (xs : List A) (n : ℕ) (x : A) → slice_get xs n ≡ Some x → take (n + 1) xs ≡ take n xs ++ x ∷ []
take_next {A = A} xs n x is = let at : n + 1 ≡ suc n = omega arith in rw at (by_suc xs n is)
  where
    by_suc : (ys : List A) (k : ℕ) → slice_get ys k ≡ Some x → take (suc k) ys ≡ take k ys ++ x ∷ []
    by_suc [] k found = absurd (none_some found)
    by_suc (y ∷ ys) zero found = ap (λ z. z ∷ []) (some_same found)
    by_suc (y ∷ ys) (suc k) found = ap (λ zs. y ∷ zs) (by_suc ys k found)

-- each entry of a legal history is of one of the users
pub legal_users : {C K T R : Type 0} (effect : C → K → Effect T R) (after : C → T → C) (first : C) (users : List (List K)) (log : List (Entry T))
    → IsLegal effect after first users log → HasUsers (length users) log
legal_users effect after first users log legal place entry is =
    let at = legal place entry is in
    let below = slice_get_within users at.index at.commands at.are_commands in
    (omega (arith, at.is_user), omega (arith, at.is_user, below))

module _ {T : Type 0} where
  -- with one user, a place up to which the user has no entry is the first one
  pub at_least : (log : List (Entry T)) (least place : ℕ) → HasUsers 1 log → least ≤ place → place ≤ length log → NoneWithin log least place 1 → place ≡ least
  at_least log least place known from within none =
      elim (cases_lt least place) [
        | inl less ↦
            let entry = there log least (omega arith) in
            let user = known least entry.0 entry.1 in
            absurd (none least entry.0 (omega arith) less entry.1 (omega (arith, user.0, user.1)))
        | inr more ↦ omega arith
      ]

  pub at_end : (log : List (Entry T)) (least : ℕ) → HasUsers 1 log → least ≤ length log → NoneFrom log least 1 → length log ≡ least
  at_end log least known within none =
      elim (cases_lt least (length log)) [
        | inl less ↦
            let entry = there log least less in
            let user = known least entry.0 entry.1 in
            absurd (none least entry.0 (omega arith) entry.1 (omega (arith, user.0, user.1)))
        | inr more ↦ omega arith
      ]

module _ {C K T R : Type 0} (effect : C → K → Effect T R) (after : C → T → C) (first : C) where
  -- after the next answer the two histories still agree
  pub agree_on : (found : Effect T R) (log other : List (Entry T)) (least number : ℕ) → take least log ≡ take least other
      → Stands found log least 1 number → Stands found other least 1 number
      → take (least_after found least) log ≡ take (least_after found least) other
  agree_on (Commit writes reply) log other least number agree here there =
      take_next log least _ here ∙ ap (λ (xs : List (Entry T)). xs ++ record { user = 1; command = number; writes = writes } ∷ []) agree ∙ sym (take_next other least _ there)
  agree_on (Rejected reply) log other least number agree here there = agree
  agree_on (Read reply) log other least number agree here there = agree

  one_from : (commands : List K) (log other : List (Entry T)) (number least : ℕ) (told replies : List (Told R)) → HasUsers 1 log → HasUsers 1 other
      → take least log ≡ take least other → length told ≡ length commands → length replies ≡ length commands
      → ToldFrom effect after first log 1 number least told commands → ToldFrom effect after first other 1 number least replies commands
      → (told ≡ replies) × (log ≡ other)
  one_from [] log other number least [] [] known known_other agree few few_other t s =
      let all : length log ≡ least = at_end log least known t.0 t.1 in
      let all_other : length other ≡ least = at_end other least known_other s.0 s.1 in
      (refl, sym (take-length log) ∙ ap (λ (n : ℕ). take n log) all ∙ agree ∙ sym (ap (λ (n : ℕ). take n other) all_other) ∙ take-length other)
  one_from [] log other number least (one ∷ told) replies known known_other agree few few_other t s = absurd (omega arith)
  one_from [] log other number least [] (one ∷ replies) known known_other agree few few_other t s = absurd (omega arith)
  one_from (command ∷ commands) log other number least [] replies known known_other agree few few_other t s = absurd (omega arith)
  one_from (command ∷ commands) log other number least (one ∷ told) [] known known_other agree few few_other t s = absurd (omega arith)
  one_from (command ∷ commands) log other number least (one ∷ told) (two ∷ replies) known known_other agree few few_other t s =
      let found = effect (version after first log one.place) command in
      let found_other = effect (version after first other two.place) command in
      let within : one.place ≤ length log = omega (arith, place_le found one.place, least_after_le found log one.place 1 number t.3) in
      let within_other : two.place ≤ length other = omega (arith, place_le found_other two.place, least_after_le found_other other two.place 1 number s.3) in
      let here : one.place ≡ least = at_least log least one.place known t.0 within t.1 in
      let there : two.place ≡ least = at_least other least two.place known_other s.0 within_other s.1 in
      let effects : found_other ≡ found =
      ap (λ (p : ℕ). effect (version after first other p) command) there
      ∙ ap (λ (xs : List (Entry T)). effect (content_after after first xs) command) (sym agree)
      ∙ sym (ap (λ (p : ℕ). effect (version after first log p) command) here) in
      let answers : one ≡ two = told_same one two (here ∙ sym there) (t.2 ∙ ap reply_of (sym effects) ∙ sym s.2) in
      let stands : Stands found log least 1 number = subst (λ (p : ℕ). Stands found log p 1 number) here t.3 in
      let stands_other : Stands found other least 1 number = subst (λ (f : Effect T R). Stands f other least 1 number) effects (subst (λ (p : ℕ). Stands found_other other p 1 number) there s.3) in
      let next : least_after found one.place ≡ least_after found least = ap (λ (p : ℕ). least_after found p) here in
      let next_other : least_after found_other two.place ≡ least_after found least = ap (λ (p : ℕ). least_after found_other p) there ∙ ap (λ (f : Effect T R). least_after f least) effects in
      let rest = one_from commands log other (number + 1) (least_after found least) told replies known known_other
      (agree_on found log other least number agree stands stands_other) (omega arith) (omega arith)
      (subst (λ (n : ℕ). ToldFrom effect after first log 1 (number + 1) n told commands) next t.4)
      (subst (λ (n : ℕ). ToldFrom effect after first other 1 (number + 1) n replies commands) next_other s.4) in
      (rw answers (ap (λ (xs : List (Told R)). two ∷ xs) rest.0), rest.1)
    where
      told_of : ℕ → R → Told R
      told_of place reply = record { place = place; reply = reply }

      told_same : (a b : Told R) → a.place ≡ b.place → a.reply ≡ b.reply → a ≡ b
      told_same a b places replies = ap (λ (p : ℕ). told_of p a.reply) places ∙ ap (λ (r : R). told_of b.place r) replies

  pub one_user : (commands : List K) (told replies : List (List (Told R))) (log other : List (Entry T))
      → IsHistoryOf effect after first (commands ∷ []) told log → IsHistoryOf effect after first (commands ∷ []) replies other
      → (told ≡ replies) × (log ≡ other)
  one_user commands (one ∷ []) (two ∷ []) log other h k =
      let a = h.runs 0 commands one refl refl in
      let b = k.runs 0 commands two refl refl in
      let both = one_from commands log other 1 0 one two (legal_users effect after first (commands ∷ []) log h.legal) (legal_users effect after first (commands ∷ []) other k.legal) refl a.0 b.0 a.1 b.1 in
      (ap (λ (xs : List (Told R)). xs ∷ []) both.0, both.1)
  one_user commands [] replies log other h k = let none : ◌≡◌ {A = ℕ} 0 1 = h.all in absurd (omega arith)
  one_user commands (one ∷ two ∷ told) replies log other h k = let none : length (one ∷ two ∷ told) ≡ 1 = h.all in absurd (omega arith)
  one_user commands (one ∷ []) [] log other h k = let none : ◌≡◌ {A = ℕ} 0 1 = k.all in absurd (omega arith)
  one_user commands (one ∷ []) (two ∷ three ∷ replies) log other h k = let none : length (two ∷ three ∷ replies) ≡ 1 = k.all in absurd (omega arith)
