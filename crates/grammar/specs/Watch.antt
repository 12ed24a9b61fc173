-- What is asked of a text besides its grammar: limits, and causes that depend on more than one token. A text is watched
-- piece by piece, in a state that the pieces before have left.
use Rattle.std.specs.Prelude.{◌≡◌, List, [], ◌∷◌, ◌++◌, Result, Ok, Err, ◌⊎◌}
use Rattle.grammar.specs.Grammar.{Grammar}

-- T is the type of tokens, R of states, C of causes
pub record Watch (T R C : Type 0) : Type 1 where
  -- this piece, read in this state, is let through and leaves that state
  pub passes : R → List T → R → Type 0
  -- these tokens begin a piece, which isn't whole yet
  pub begins : R → List T → Type 0
  -- this piece is refused for this cause, when its last token is read
  pub refuses : R → List T → C → Type 0

-- these pieces pass, one after the other
abbrev pub AllPass : {T R C : Type 0} → Watch T R C → R → List (List T) → R → Type 0
AllPass W r [] s = s ≡ r
AllPass W r (u ∷ us) s = (m : _) × W.passes r u m × AllPass W m us s

-- the pieces as one text
abbrev pub joined : {T : Type 0} → List (List T) → List T
joined [] = []
joined (u ∷ us) = u ++ joined us

-- the tokens are pieces that pass
pub record Passes {T R C : Type 0} (W : Watch T R C) (r : R) (ts : List T) (s : R) : Type 0 where
  pub pieces : List (List T)
  pub parts : ts ≡ joined pieces
  pub pass : AllPass W r pieces s

-- the tokens are pieces that pass, and perhaps the beginning of one more
pub record Within {T R C : Type 0} (W : Watch T R C) (r : R) (ts : List T) : Type 0 where
  pub whole : List T
  pub begun : List T
  pub state : R
  pub parts : ts ≡ whole ++ begun
  pub pass : Passes W r whole state
  pub begins : (begun ≡ []) ⊎ W.begins state begun

-- the tokens are pieces that pass, and a last one that is refused
pub record Refuses {T R C : Type 0} (W : Watch T R C) (r : R) (ts : List T) (cause : C) : Type 0 where
  pub whole : List T
  pub piece : List T
  pub state : R
  pub parts : ts ≡ whole ++ piece
  pub pass : Passes W r whole state
  pub refused : W.refuses state piece cause

-- each token is a piece, and scan says what it does
abbrev pub each_token : {T R C : Type 0} → (R → T → Result R C) → Watch T R C
each_token scan = record {
  passes = λ r u s. (t : _) × (u ≡ t ∷ []) × (scan r t ≡ Ok s);
  begins = λ _ _. ⊥;
  refuses = λ r u cause. (t : _) × (u ≡ t ∷ []) × (scan r t ≡ Err cause);
}

-- the pieces are texts of G, and add says what the tree of each does
abbrev pub each_text : {T X R C : Type 0} → Grammar T X → (R → X → Result R C) → Watch T R C
each_text G add = record {
  passes = λ r u s. (x : _) × G u x × (add r x ≡ Ok s);
  begins = λ _ u. (t : _) × (more : List _) × (x : _) × G (u ++ t ∷ more) x;
  refuses = λ r u cause. (x : _) × G u x × (add r x ≡ Err cause);
}

-- nothing is asked, and the state stays
abbrev pub unscanned : {T R C : Type 0} → R → T → Result R C
unscanned r t = Ok r

abbrev pub unwatched : {T R C : Type 0} → Watch T R C
unwatched = each_token unscanned
