-- Tokens behind one that is read already.
use Rattle.std.specs.Prelude.{◌≡◌, ℕ, List, [], length, Option, None, option_map}
use Rattle.std.specs.List.{cons_option}
use Rattle.cube_lex.specs.Lexeme.{Lexeme, lexeme_of}
use Rattle.cube_lex.specs.declared.token.Token.{Token}

abbrev pub onto : Option Token → List Lexeme → List Lexeme
onto next behind = cons_option (option_map lexeme_of next) behind

-- there are so many of them, and where none is next none is left
pub record IsLeft (next : Option Token) (behind : List Lexeme) (left : ℕ) : Type 0 where
  pub none : next ≡ None → behind ≡ []
  pub left_is : left ≡ length (onto next behind)
