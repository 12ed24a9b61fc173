-- Where one user runs, the commands leave one history, and one list of what is told.
use Rattle.std.proofs.Common.{◌≡◌, ℕ, ◌+◌, ◌≤◌, List, [], ◌∷◌, length, take, refl, ap, sym, ◌∙◌, subst, arith}
use Rattle.std.proofs.Math.Seq.{take-length}
use Rattle.history.specs.declared.entry.Entry.{Entry}
use Rattle.history.specs.declared.told.Told.{Told}
use Rattle.history.specs.declared.effect.Effect.{Effect}
use Rattle.history.specs.Version.{content_after, version}
use Rattle.history.specs.UserRun.{reply_of, least_after, Stands, ToldFrom}
use Rattle.history.specs.LegalHistory.{HasUsers}
use Rattle.history.proofs.Runs.{least_after_le, place_le}
use Rattle.history.proofs.OneUser.{legal_users, at_least, at_end, agree_on}
use Rattle.layers.specs.Layered.{effect_of, layered, all_layered, IsLayeredHistoryOf}
use Rattle.layers.proofs.Alone.{told_same}

module _ {C L K T R : Type 0} (answer : C → L → K → Effect T R × L) (after : C → T → C) (first : C) where
  -- the two runs answer the next command at one place, on one content
  record IsAlike (log other : List (Entry T)) (least : ℕ) (layer : L) (command : K) (one two : Told R) : Type 0 where
    pub here : one.place ≡ least
    pub there : two.place ≡ least
    pub contents : version after first other two.place ≡ version after first log one.place

  alike : (log other : List (Entry T)) (number least : ℕ) (layer : L) (command : K) (one two : Told R) (told replies : List (Told R)) (commands : List K) → HasUsers 1 log → HasUsers 1 other
      → take least log ≡ take least other
      → ToldFrom (effect_of answer) after first log 1 number least (one ∷ told) (layered answer after first log layer (one ∷ told) (command ∷ commands))
      → ToldFrom (effect_of answer) after first other 1 number least (two ∷ replies) (layered answer after first other layer (two ∷ replies) (command ∷ commands))
      → IsAlike log other least layer command one two
  alike log other number least layer command one two told replies commands known known_other agree t s =
      let found = effect_of answer (version after first log one.place) (layer, command) in
      let found_other = effect_of answer (version after first other two.place) (layer, command) in
      let within : one.place ≤ length log = omega (arith, place_le found one.place, least_after_le found log one.place 1 number t.3) in
      let within_other : two.place ≤ length other = omega (arith, place_le found_other two.place, least_after_le found_other other two.place 1 number s.3) in
      let here : one.place ≡ least = at_least log least one.place known t.0 within t.1 in
      let there : two.place ≡ least = at_least other least two.place known_other s.0 within_other s.1 in
      record {
        here = here;
        there = there;
        contents =
            ap (λ (p : ℕ). version after first other p) there
            ∙ ap (λ (xs : List (Entry T)). content_after after first xs) (sym agree)
            ∙ sym (ap (λ (p : ℕ). version after first log p) here);
      }

  one_from : (commands : List K) (log other : List (Entry T)) (number least : ℕ) (layer : L) (told replies : List (Told R)) → HasUsers 1 log → HasUsers 1 other
      → take least log ≡ take least other
      → length told ≡ length (layered answer after first log layer told commands) → length replies ≡ length (layered answer after first other layer replies commands)
      → ToldFrom (effect_of answer) after first log 1 number least told (layered answer after first log layer told commands)
      → ToldFrom (effect_of answer) after first other 1 number least replies (layered answer after first other layer replies commands)
      → (told ≡ replies) × (log ≡ other)
  one_from [] log other number least layer [] [] known known_other agree few few_other t s =
      let all : length log ≡ least = at_end log least known t.0 t.1 in
      let all_other : length other ≡ least = at_end other least known_other s.0 s.1 in
      (refl, sym (take-length log) ∙ ap (λ (n : ℕ). take n log) all ∙ agree ∙ sym (ap (λ (n : ℕ). take n other) all_other) ∙ take-length other)
  one_from [] log other number least layer (one ∷ told) replies known known_other agree few few_other t s = absurd t
  one_from [] log other number least layer [] (one ∷ replies) known known_other agree few few_other t s = absurd s
  one_from (command ∷ commands) log other number least layer [] replies known known_other agree few few_other t s = absurd (omega arith)
  one_from (command ∷ commands) log other number least layer (one ∷ told) [] known known_other agree few few_other t s = absurd (omega arith)
  one_from (command ∷ commands) log other number least layer (one ∷ told) (two ∷ replies) known known_other agree few few_other t s =
      let same = alike log other number least layer command one two told replies commands known known_other agree t s in
      let found = effect_of answer (version after first log one.place) (layer, command) in
      let found_other = effect_of answer (version after first other two.place) (layer, command) in
      let effects : found_other ≡ found = ap (λ (c : C). effect_of answer c (layer, command)) same.contents in
      let next = (answer (version after first log one.place) layer command).1 in
      let next_other = (answer (version after first other two.place) layer command).1 in
      let nexts : next_other ≡ next = ap (λ (c : C). (answer c layer command).1) same.contents in
      let answers : one ≡ two = told_same one two (same.here ∙ sym same.there) (t.2 ∙ ap reply_of (sym effects) ∙ sym s.2) in
      let stands : Stands found log least 1 number = subst (λ (p : ℕ). Stands found log p 1 number) same.here t.3 in
      let stands_other : Stands found other least 1 number =
      subst (λ (f : Effect T R). Stands f other least 1 number) effects (subst (λ (p : ℕ). Stands found_other other p 1 number) same.there s.3) in
      let past : least_after found one.place ≡ least_after found least = ap (λ (p : ℕ). least_after found p) same.here in
      let past_other : least_after found_other two.place ≡ least_after found least =
      ap (λ (p : ℕ). least_after found_other p) same.there ∙ ap (λ (f : Effect T R). least_after f least) effects in
      let few_after : length replies ≡ length (layered answer after first other next replies commands) =
      subst (λ (l : L). length replies ≡ length (layered answer after first other l replies commands)) nexts (omega arith) in
      let run_after = subst (λ (l : L). ToldFrom (effect_of answer) after first other 1 (number + 1) (least_after found_other two.place) replies (layered answer after first other l replies commands)) nexts s.4 in
      let rest = one_from commands log other (number + 1) (least_after found least) next told replies known known_other
      (agree_on (effect_of answer) after first found log other least number agree stands stands_other) (omega arith) few_after
      (subst (λ (n : ℕ). ToldFrom (effect_of answer) after first log 1 (number + 1) n told (layered answer after first log next told commands)) past t.4)
      (subst (λ (n : ℕ). ToldFrom (effect_of answer) after first other 1 (number + 1) n replies (layered answer after first other next replies commands)) past_other run_after) in
      (rw answers (ap (λ (xs : List (Told R)). two ∷ xs) rest.0), rest.1)

  -- one user has one list of replies
  single : (layer : L) (commands : List K) (told : List (List (Told R))) (log : List (Entry T)) → IsLayeredHistoryOf answer after first layer (commands ∷ []) told log
      → (one : List (Told R)) × (told ≡ one ∷ [])
  single layer commands [] log h = let none : ◌≡◌ {A = ℕ} 0 1 = h.all in absurd (omega arith)
  single layer commands (one ∷ []) log h = (one, refl)
  single layer commands (one ∷ two ∷ told) log h = let none : length (one ∷ two ∷ told) ≡ 1 = h.all in absurd (omega arith)

  pub one_user : (layer : L) (commands : List K) (told replies : List (List (Told R))) (log other : List (Entry T))
      → IsLayeredHistoryOf answer after first layer (commands ∷ []) told log → IsLayeredHistoryOf answer after first layer (commands ∷ []) replies other
      → (told ≡ replies) × (log ≡ other)
  one_user layer commands told replies log other h k =
      let one = single layer commands told log h in
      let two = single layer commands replies other k in
      let mine = subst (λ (ts : List (List (Told R))). IsLayeredHistoryOf answer after first layer (commands ∷ []) ts log) one.1 h in
      let yours = subst (λ (ts : List (List (Told R))). IsLayeredHistoryOf answer after first layer (commands ∷ []) ts other) two.1 k in
      let a = mine.runs 0 (layered answer after first log layer one.0 commands) one.0 refl refl in
      let b = yours.runs 0 (layered answer after first other layer two.0 commands) two.0 refl refl in
      let both = one_from commands log other 1 0 layer one.0 two.0
      (legal_users (effect_of answer) after first (all_layered answer after first log layer (one.0 ∷ []) (commands ∷ [])) log mine.legal)
      (legal_users (effect_of answer) after first (all_layered answer after first other layer (two.0 ∷ []) (commands ∷ [])) other yours.legal) refl a.0 b.0 a.1 b.1 in
      (one.1 ∙ ap (λ (xs : List (Told R)). xs ∷ []) both.0 ∙ sym two.1, both.1)
