-- The tokens of a text as they are counted.
use Rattle.std.specs.Prelude.{◌≡◌, ℕ, List, length}
use Rattle.cube_lex.specs.Lexeme.{Lexeme}
use Rattle.cube_lex.specs.Reading.{IsReading}
use Rattle.cube_lex.specs.declared.text.TokenCount.{TokenCount}

-- it is read as so many tokens, up to this fault at this place
abbrev pub Counts : List ℕ → TokenCount → Type 0
Counts text counted =
    (lexemes : List Lexeme) × IsReading text (record { lexemes = lexemes; end = counted.end }) counted.fault
    × (counted.tokens ≡ length lexemes)
