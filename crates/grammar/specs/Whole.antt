-- What is answered of the bytes of a whole text: its tree, or the first fault.
use Rattle.std.specs.Prelude.{◌≡◌, ℕ, ◌-◌, List, [], ◌∷◌, ◌++◌, length, drop, Option, Some, None, Result, Ok, Err}
use Rattle.cube_lex.specs.Lexed.{Lexed}
use Rattle.cube_lex.specs.Lexeme.{Lexeme}
use Rattle.cube_lex.specs.Positions.{position_of}
use Rattle.cube_lex.specs.Reading.{IsReading}
use Rattle.cube_lex.specs.declared.fault.LexFault.{LexFault}
use Rattle.cube_lex.specs.declared.position.Position.{Position}
use Rattle.grammar.specs.Grammar.{Grammar, Alive}
use Rattle.grammar.specs.Watch.{Watch, Within}
use Rattle.grammar.specs.Fault.{IsText, Fails, place_at, IsRefused}
use Rattle.grammar.specs.declared.stop.Stop.{Stop}
use Rattle.grammar.specs.declared.stop.Stop.TheVariants as stops
use Rattle.grammar.specs.declared.answer.TextFault.{TextFault}
use Rattle.grammar.specs.declared.answer.TextFault.TheVariants as faults

-- the bytes have no lexical fault, and their tokens are a text of the grammar with this tree, in which nothing is
-- refused
pub record IsWholeText {A R C : Type 0}
    (G : Grammar Lexeme A) (W : Watch Lexeme R C) (start : R) (bytes : List ℕ) (tree : A) (state : R) : Type 0 where
  pub lexed : Lexed
  pub reading : IsReading bytes lexed None
  pub text : IsText G W start lexed.lexemes tree state

-- What follows fits nothing. A lexical fault behind the tokens counts as a token that no text of the grammar has.
abbrev pub FailsBefore : {A : Type 0} → Grammar Lexeme A → Option LexFault → List Lexeme → List Lexeme → Type 0
FailsBefore G None before rest = Fails G before rest
FailsBefore G (Some fault) before [] = Unit {0}
FailsBefore G (Some fault) before (t ∷ rest) = Fails G before (t ∷ rest)

-- the place of the first of these tokens; where there is none, that of the lexical fault or of the text's end
abbrev pub place_of : Lexed → List Lexeme → Position
place_of lexed rest = place_at position_of lexed.end rest

-- the first fault is one of the grammar or a lexical one: the tokens up to it begin a text in which nothing is refused,
-- and it stands at this place
pub record IsWholeSyntax {A R C : Type 0}
    (G : Grammar Lexeme A) (W : Watch Lexeme R C) (start : R) (bytes : List ℕ) (at : Position) : Type 0 where
  pub lexed : Lexed
  pub fault : Option LexFault
  pub reading : IsReading bytes lexed fault
  pub before : List Lexeme
  pub rest : List Lexeme
  pub parts : lexed.lexemes ≡ before ++ rest
  pub place : at ≡ place_of lexed rest
  pub alive : Alive G before
  pub within : Within W start before
  pub fails : FailsBefore G fault before rest

-- the first fault has this cause of the watch
pub record IsWholeRefused {A R C : Type 0}
    (G : Grammar Lexeme A) (W : Watch Lexeme R C) (start : R) (bytes : List ℕ) (cause : C) : Type 0 where
  pub lexed : Lexed
  pub fault : Option LexFault
  pub reading : IsReading bytes lexed fault
  pub refused : IsRefused G W start lexed.lexemes cause

-- what is answered of the bytes: the tree, seen by view, or the first fault; out of memory, nothing is said
abbrev pub AnswersWhole : {X A R C : Type 0} → (X → A) → Grammar Lexeme A → Watch Lexeme R C → R → List ℕ
    → Result X (TextFault C) → Type 0
AnswersWhole {R = R} view G W start bytes (Ok x) = (state : R) × IsWholeText G W start bytes (view x) state
AnswersWhole view G W start bytes (Err faults.Memory) = Unit {0}
AnswersWhole view G W start bytes (Err (faults.Syntax at)) = IsWholeSyntax G W start bytes at
AnswersWhole view G W start bytes (Err (faults.Refused cause)) = IsWholeRefused G W start bytes cause

-- what a reader that left these tokens has found, where the text may have a lexical fault behind them
abbrev pub at_end : {X C : Type 0} → X → Lexed → Option LexFault → List Lexeme → Result X (TextFault C)
at_end x lexed None [] = Ok x
at_end x lexed (Some fault) [] = Err (faults.Syntax (place_of lexed []))
at_end x lexed fault (t ∷ rest) = Err (faults.Syntax (place_of lexed (t ∷ rest)))

-- what a reader of a whole text returned, and the tokens that it left, come to
abbrev pub answer_of_text : {X C : Type 0} → Lexed → Option LexFault → Result X (Stop C) → List Lexeme
    → Result X (TextFault C)
answer_of_text lexed fault (Ok x) rest = at_end x lexed fault rest
answer_of_text lexed fault (Err stops.Memory) rest = Err faults.Memory
answer_of_text lexed fault (Err (stops.Unexpected left)) rest =
    Err (faults.Syntax (place_of lexed (drop (length lexed.lexemes - left) lexed.lexemes)))
answer_of_text lexed fault (Err (stops.Refused cause)) rest = Err (faults.Refused cause)

-- The bytes of a text have one answer: one tree, or one first fault, and not both.
pub record HasOneAnswer {A R C : Type 0} (G : Grammar Lexeme A) (W : Watch Lexeme R C) (start : R) : Type 0 where
  pub one_tree : (bytes : List ℕ) (x y : A) (r s : R)
      → IsWholeText G W start bytes x r → IsWholeText G W start bytes y s → x ≡ y
  pub one_place : (bytes : List ℕ) (k l : Position)
      → IsWholeSyntax G W start bytes k → IsWholeSyntax G W start bytes l → k ≡ l
  pub one_cause : (bytes : List ℕ) (c d : C)
      → IsWholeRefused G W start bytes c → IsWholeRefused G W start bytes d → c ≡ d
  pub no_syntax : (bytes : List ℕ) (x : A) (r : R) (k : Position)
      → IsWholeText G W start bytes x r → IsWholeSyntax G W start bytes k → ⊥
  pub no_refusal : (bytes : List ℕ) (x : A) (r : R) (c : C)
      → IsWholeText G W start bytes x r → IsWholeRefused G W start bytes c → ⊥
  pub one_fault : (bytes : List ℕ) (k : Position) (c : C)
      → IsWholeSyntax G W start bytes k → IsWholeRefused G W start bytes c → ⊥
