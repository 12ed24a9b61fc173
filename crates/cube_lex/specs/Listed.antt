-- The tokens of a text as they are kept in a list.
use Rattle.std.specs.Prelude.{◌≡◌, ℕ, ◌≤◌, ◌^◌, List, length, drop, All}
use Rattle.cube_lex.specs.Lexed.{IsWellFormed}
use Rattle.cube_lex.specs.Lexeme.{Lexeme}
use Rattle.cube_lex.specs.Parts.{Part, Divides}
use Rattle.cube_lex.specs.Reading.{lexemes_among, mark_len}

-- The tokens are those among parts of the text behind its mark.
pub record AreListed (text : List ℕ) (tokens : List Lexeme) : Type 0 where
  pub well_formed : All IsWellFormed tokens
  pub parts : List Part
  pub rest : List ℕ
  pub divided : Divides (drop (mark_len text) text) parts rest
  pub tokens_are : tokens ≡ lexemes_among text (mark_len text) parts
  pub small : length text ≤ 2 ^ 30
