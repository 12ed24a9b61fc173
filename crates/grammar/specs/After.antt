-- Repetition where what may come depends on what was there before.
use Rattle.std.specs.Prelude.{◌≡◌, ℕ, zero, suc, List, [], ◌∷◌, ◌++◌, length, Bool}
use Rattle.grammar.specs.Grammar.{Grammar}
use Rattle.grammar.specs.Reading.{Reader, gives, both_of, choose}

-- any number of texts, one after the other, each of a grammar that the trees before it decide
abbrev pub many_after : {T A : Type 0} → (List A → Grammar T A) → List A → Grammar T (List A)
many_after G before ts [] = ts ≡ []
many_after G before ts (a ∷ rest) =
    (u v : List _) × (ts ≡ u ++ v) × G before u a × many_after G (before ++ a ∷ []) v rest

-- one more turn, before what the further turns read
abbrev pub turn_after : {T R C A : Type 0} → (T → Bool) → Reader T R C A → (A → Reader T R C (List A))
    → Reader T R C (List A)
turn_after p P Q = choose p (both_of P (λ a. both_of (Q a) (λ rest. gives (a ∷ rest)))) (gives [])

-- at most so many turns
abbrev pub repeat_after : {T R C A : Type 0} → (T → Bool) → (List A → Reader T R C A) → ℕ → List A
    → Reader T R C (List A)
repeat_after p P zero before s ts = gives [] s ts
repeat_after p P (suc k) before s ts = turn_after p (P before) (λ a. repeat_after p P k (before ++ a ∷ [])) s ts

-- again and again, while the next token is one of these
abbrev pub all_after : {T R C A : Type 0} → (T → Bool) → (List A → Reader T R C A) → List A → Reader T R C (List A)
all_after p P before s ts = repeat_after p P (length ts) before s ts
