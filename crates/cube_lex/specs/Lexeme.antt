-- Tokens as the rules of a text see them.
use Rattle.std.specs.Prelude.{ℕ, List}
use Rattle.cube_lex.specs.declared.token.Kind.{Kind}
use Rattle.cube_lex.specs.declared.token.Token.{Token}

-- A token without where it lies in memory: its kind, its bytes as written, the offset of its first byte and
-- the line of that offset.
pub record Lexeme : Type 0 where
  pub kind : Kind
  pub piece : List ℕ
  pub start : ℕ
  pub line : ℕ

abbrev pub lexeme_of : Token → Lexeme
lexeme_of token = record { kind = token.kind; piece = token.piece.now; start = token.start; line = token.line }
