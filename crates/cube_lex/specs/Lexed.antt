-- What a text is read as.
use Rattle.std.specs.Prelude.{◌≤◌, ℕ, List, length, map}
use Rattle.cube_lex.specs.Lexeme.{Lexeme, lexeme_of}
use Rattle.cube_lex.specs.Parts.{IsToken, most_token_bytes}
use Rattle.cube_lex.specs.declared.position.Position.{Position}
use Rattle.cube_lex.specs.declared.token.Token.{Token}

-- the tokens of a text up to its first fault, and the place of that fault or of the text's end
pub record Lexed : Type 0 where
  pub lexemes : List Lexeme
  pub end : Position

abbrev pub lexed_of : List Token → Position → Lexed
lexed_of tokens end = record { lexemes = map lexeme_of tokens; end = end }

-- a token of its kind, which isn't too long; so it can be written as it is
abbrev pub IsWellFormed : Lexeme → Type 0
IsWellFormed lexeme = IsToken lexeme.kind lexeme.piece × (length lexeme.piece ≤ most_token_bytes)
