-- What a parser answers: the tree, or the first fault.
use Rattle.std.specs.Prelude.{◌≡◌, ℕ, List, [], ◌∷◌, ◌++◌}
use Rattle.grammar.specs.Grammar.{Grammar, Alive}
use Rattle.grammar.specs.Watch.{Watch, Passes, Within, Refuses}

-- the tokens are a text of the grammar with this tree, and nothing in it is refused; it leaves this state
pub record IsText {T A R C : Type 0}
    (G : Grammar T A) (W : Watch T R C) (start : R) (ts : List T) (tree : A) (state : R) : Type 0 where
  pub text : G ts tree
  pub passes : Passes W start ts state

-- before what follows, the tokens begin a text, and with its first token none; at the end, they are none
abbrev pub Fails : {T A : Type 0} → Grammar T A → List T → List T → Type 0
Fails G before [] = (tree : _) → G before tree → ⊥
Fails G before (t ∷ rest) = Alive G (before ++ t ∷ []) → ⊥

-- the place of what follows: of its first token, or of the text's end
abbrev pub place_at : {T P : Type 0} → (T → P) → P → List T → P
place_at place end [] = end
place_at place end (t ∷ rest) = place t

-- the first fault is one of the grammar: the tokens up to it begin a text in which nothing is refused, and it stands at
-- this place
pub record IsSyntax {T P A R C : Type 0}
    (place_of : T → P) (G : Grammar T A) (W : Watch T R C) (start : R) (ts : List T) (end at : P) : Type 0 where
  pub before : List T
  pub rest : List T
  pub parts : ts ≡ before ++ rest
  pub place : at ≡ place_at place_of end rest
  pub alive : Alive G before
  pub within : Within W start before
  pub fails : Fails G before rest

-- the first fault has this cause: the tokens up to it begin a text, and its last piece so far is the first that is
-- refused
pub record IsRefused {T A R C : Type 0}
    (G : Grammar T A) (W : Watch T R C) (start : R) (ts : List T) (cause : C) : Type 0 where
  pub before : List T
  pub last : T
  pub rest : List T
  pub parts : ts ≡ before ++ last ∷ rest
  pub alive : Alive G (before ++ last ∷ [])
  pub refused : Refuses W start (before ++ last ∷ []) cause
