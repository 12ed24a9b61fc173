-- The tokens that stand in a text from a place on.
use Rattle.std.specs.Prelude.{◌≡◌, ℕ, ◌≤◌, ◌^◌, List, length, drop}
use Rattle.cube_lex.specs.Bytes.{line_at}
use Rattle.cube_lex.specs.Lexeme.{Lexeme}
use Rattle.cube_lex.specs.Parts.{Part, Divides}
use Rattle.cube_lex.specs.Reading.{lexemes_among}

-- The offset is on this line, and these tokens, which are so many, are those among parts of the text that begin there.
pub record Ahead (text : List ℕ) (at line left : ℕ) (tokens : List Lexeme) : Type 0 where
  pub parts : List Part
  pub rest : List ℕ
  pub divided : Divides (drop at text) parts rest
  pub tokens_are : tokens ≡ lexemes_among text at parts
  pub left_is : left ≡ length tokens
  pub line_is : line ≡ line_at text at
  pub within : at ≤ length text
  pub small : length text ≤ 2 ^ 30

abbrev pub IsAhead : List ℕ → ℕ → ℕ → ℕ → List Lexeme → Type 0
IsAhead text at line left tokens = ∥ Ahead text at line left tokens ∥₁

-- these are the only such tokens
abbrev pub AreTheAhead : List ℕ → ℕ → ℕ → ℕ → List Lexeme → Type 0
AreTheAhead text at line left tokens =
    IsAhead text at line left tokens × ((other : List Lexeme) → IsAhead text at line left other → tokens ≡ other)

-- There are such tokens, and no others: they are known by how many they are.
abbrev pub TokensFrom : List ℕ → ℕ → ℕ → ℕ → Type 0
TokensFrom text at line left = (tokens : List Lexeme) × (AreTheAhead text at line left tokens)
