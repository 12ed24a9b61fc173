-- Readers: the shape that the code has. Private functions say by these what they read; that a reader keeps to its
-- grammar is proved apart, once for each combinator.
use Rattle.std.specs.Prelude.{ℕ, zero, suc, List, [], ◌∷◌, length, Option, Some, None, Result, Ok, Err, Bool, false}
use Rattle.std.specs.Prelude.{if◌then◌else◌}

-- why a reader stops: the next token fits nothing, with how many tokens are left; a cause of the watch; or it was given
-- no turns for a text inside another, which no code answers
pub data Stop (C : Type 0) : Type 0 where
  Unexpected : ℕ → Stop C
  Refused : C → Stop C
  OutOfTurns : Stop C

abbrev pub Read : (T R C A : Type 0) → Type 0
Read T R C A = Result (A × R × List T) (Stop C)

-- from a state and the tokens to a tree, the next state and the tokens after it
abbrev pub Reader : (T R C A : Type 0) → Type 0
Reader T R C A = R → List T → Read T R C A

-- the next token, if there is one
abbrev pub first : {T : Type 0} → List T → Option T
first [] = None
first (t ∷ _) = Some t

-- whether the next token is one of these
abbrev pub starts : {T : Type 0} → (T → Bool) → List T → Bool
starts p [] = false
starts p (t ∷ _) = p t

abbrev pub gives : {T R C A : Type 0} → A → Reader T R C A
gives a s ts = Ok (a, s, ts)

abbrev pub taken : {T R C A : Type 0} → Option A → Result R C → List T → Read T R C A
taken None _ ts = Err (Unexpected (suc (length ts)))
taken (Some a) (Ok s) ts = Ok (a, s, ts)
taken (Some a) (Err cause) ts = Err (Refused cause)

-- the next token, which pick takes and scan lets through
abbrev pub take_one : {T R C A : Type 0} → (R → T → Result R C) → (T → Option A) → Reader T R C A
take_one scan pick s [] = Err (Unexpected 0)
take_one scan pick s (t ∷ ts) = taken (pick t) (scan s t) ts

abbrev pub bound : {T R C A B : Type 0} → Read T R C A → (A → Reader T R C B) → Read T R C B
bound (Ok x) K = K x.0 x.1 x.2
bound (Err halt) K = Err halt

-- P, and then what its tree leads to
abbrev pub both_of : {T R C A B : Type 0} → Reader T R C A → (A → Reader T R C B) → Reader T R C B
both_of P K s ts = bound (P s ts) K

infixl 10 ◌>>=◌
abbrev pub ◌>>=◌ : {T R C A B : Type 0} → Reader T R C A → (A → Reader T R C B) → Reader T R C B
P >>= K = both_of P K

infixl 10 ◌>>◌
abbrev pub ◌>>◌ : {T R C A B : Type 0} → Reader T R C A → Reader T R C B → Reader T R C B
P >> Q = both_of P (λ _. Q)

-- a reader whose tree isn't kept
abbrev pub unit_of : {T R C A : Type 0} → Reader T R C A → Reader T R C (Unit {0})
unit_of P = both_of P (λ _. gives tt)

-- by the next token
abbrev pub choose : {T R C A : Type 0} → (T → Bool) → Reader T R C A → Reader T R C A → Reader T R C A
choose p P Q s ts = if starts p ts then P s ts else Q s ts

-- one more turn, before what the further turns read
abbrev pub turn : {T R C A : Type 0} → (T → Bool) → Reader T R C A → Reader T R C (List A) → Reader T R C (List A)
turn p P Q = choose p (both_of P (λ a. both_of Q (λ rest. gives (a ∷ rest)))) (gives [])

-- at most so many turns
abbrev pub repeat : {T R C A : Type 0} → (T → Bool) → Reader T R C A → ℕ → Reader T R C (List A)
repeat p P zero s ts = gives [] s ts
repeat p P (suc k) s ts = turn p P (repeat p P k) s ts

-- again and again, while the next token is one of these; as each turn takes a token, there are no more turns than
-- tokens
abbrev pub all_of : {T R C A : Type 0} → (T → Bool) → Reader T R C A → Reader T R C (List A)
all_of p P s ts = repeat p P (length ts) s ts

abbrev pub let_through : {T R C X : Type 0} → X → List T → Result R C → Read T R C X
let_through x ts (Ok s) = Ok (x, s, ts)
let_through x ts (Err cause) = Err (Refused cause)

abbrev pub checked_result : {T U R C X : Type 0} → (X → Result R C) → Read T U C X → Read T R C X
checked_result add (Ok x) = let_through x.0 x.2 (add x.0)
checked_result add (Err halt) = Err halt

-- a piece that is read unwatched, and then checked as a whole
abbrev pub checked : {T U R C X : Type 0} → U → (R → X → Result R C) → Reader T U C X → Reader T R C X
checked u add P s ts = checked_result (add s) (P u ts)

abbrev pub inside_result : {T R S C D A : Type 0} → (R → S) → (C → D) → Read T R C A → Read T S D A
inside_result back cause (Ok x) = Ok (x.0, back x.1, x.2)
inside_result back cause (Err (Unexpected left)) = Err (Unexpected left)
inside_result back cause (Err (Refused c)) = Err (Refused (cause c))
inside_result back cause (Err OutOfTurns) = Err OutOfTurns

-- a text inside another, with a state and causes of its own
abbrev pub inside : {T R S C D A : Type 0} → (S → R) → (S → R → S) → (S → C → D) → Reader T R C A → Reader T S D A
inside begin back cause P s ts = inside_result (back s) (cause s) (P (begin s) ts)

-- the end of the text
abbrev pub finish : {T R C : Type 0} → Reader T R C (Unit {0})
finish s [] = Ok (tt, s, [])
finish s (t ∷ ts) = Err (Unexpected (suc (length ts)))

-- a text and nothing after it
abbrev pub whole : {T R C A : Type 0} → Reader T R C A → Reader T R C A
whole P = both_of P (λ a. both_of finish (λ _. gives a))
