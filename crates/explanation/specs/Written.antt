-- What a file has of a reference or an operand.
use Rattle.std.specs.Prelude.{ℕ, ◌+◌, ◌-◌, nat_le, Bool, ◌||◌, List, [], ◌∷◌, Option, Some, None, codes, length}
use Rattle.std.specs.Prelude.{drop, take, slice_get, if◌then◌else◌}
use Rattle.std.specs.Option.{option_map_or}
use Rattle.cube_lex.specs.Lexeme.{Lexeme}
use Rattle.grammar.specs.Reading.{starts}
use Rattle.grammar.specs.Tokens.{is_sign}

abbrev pub opens : Lexeme → Bool
opens token = is_sign (codes "[") token || is_sign (codes "(") token

abbrev pub closes : Lexeme → Bool
closes token = is_sign (codes "]") token || is_sign (codes ")") token

-- behind so many signs that are open, the one that closes the first of them
abbrev pub closing : ℕ → List Lexeme → Option Lexeme
closing depth [] = None
closing depth (token ∷ tokens) =
    if opens token then closing (depth + 1) tokens
    else if closes token then (if nat_le depth 1 then Some token else closing (depth - 1) tokens)
    else closing depth tokens

-- the last token of the reference or operand that begins these tokens: the sign that closes it, the name behind `!`, or
-- its only one
abbrev pub last_token : List Lexeme → Option Lexeme
last_token [] = None
last_token (token ∷ tokens) =
    if is_sign (codes "[") token || starts (is_sign (codes "(")) tokens then closing 0 (token ∷ tokens)
    else if is_sign (codes "!") token then slice_get tokens 0
    else Some token

-- the offset of the first of these tokens, or 0 where there is none
abbrev pub begin_of : List Lexeme → ℕ
begin_of tokens = option_map_or (λ token. token.start) (slice_get tokens 0) 0

-- the offset behind a token, or 0 where there is none
abbrev pub end_of : Option Lexeme → ℕ
end_of last = option_map_or (λ token. token.start + length token.piece) last 0

-- the bytes of the reference or operand that begins these tokens
abbrev pub written : List ℕ → List Lexeme → List ℕ
written text tokens = drop (begin_of tokens) (take (end_of (last_token tokens)) text)
