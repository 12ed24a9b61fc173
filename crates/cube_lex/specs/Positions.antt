-- Places in a text.
use Rattle.std.specs.Prelude.{ℕ, List}
use Rattle.cube_lex.specs.Bytes.{line_at}
use Rattle.cube_lex.specs.Lexeme.{Lexeme}
use Rattle.cube_lex.specs.declared.position.Position.{Position}

-- the place of the byte at an offset
abbrev pub position_at : List ℕ → ℕ → Position
position_at text at = record { offset = at; line = line_at text at }

-- where a token stands: at its first byte
abbrev pub position_of : Lexeme → Position
position_of lexeme = record { offset = lexeme.start; line = lexeme.line }

-- where a text begins
abbrev pub text_begin : Position
text_begin = record { offset = 0; line = 1 }

-- no place of any text
abbrev pub nowhere : Position
nowhere = record { offset = 0; line = 0 }
