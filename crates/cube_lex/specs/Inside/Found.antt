-- The first of the tokens that are left, for the function that finds it.
use Rattle.std.specs.Prelude.{◌≡◌, ℕ, ◌-◌, ◌<◌, List, ◌∷◌, drop, Option, Some, None}
use Rattle.cube_lex.specs.Ahead.{IsAhead}
use Rattle.cube_lex.specs.Lexeme.{Lexeme, lexeme_of}
use Rattle.cube_lex.specs.declared.found.Found.{Found}

-- the token is the first of those, and the others come behind it; there is none only where none is left
abbrev pub IsFound : List ℕ → ℕ → ℕ → ℕ → Option Found → Type 0
IsFound text at line left None = left ≡ 0
IsFound text at line left (Some found) =
    (0 < left) × ((tokens : List Lexeme) → IsAhead text at line left tokens
    → (tokens ≡ lexeme_of found.token ∷ drop 1 tokens) × IsAhead text found.at found.line (left - 1) (drop 1 tokens))
