-- Reading a text: its tokens in order, and the first place where it can't be read on.
use Rattle.std.specs.Prelude.{◌≡◌, ℕ, ◌+◌, ◌-◌, ◌^◌, ◌<◌, ◌≤◌, List, [], ◌∷◌, length, Option, Some, option_map}
use Rattle.std.specs.Prelude.{drop, nat_eq, if◌then◌else◌}
use Rattle.std.specs.List.{cons_option, starts_with}
use Rattle.cube_lex.specs.Bytes.{line_at}
use Rattle.cube_lex.specs.Fault.{Stops, place_of}
use Rattle.cube_lex.specs.Lexeme.{Lexeme}
use Rattle.cube_lex.specs.Lexed.{Lexed}
use Rattle.cube_lex.specs.Parts.{Part, Divides}
use Rattle.cube_lex.specs.Positions.{position_at}
use Rattle.cube_lex.specs.declared.fault.LexFault.{LexFault}
use Rattle.cube_lex.specs.declared.fault.LexFault.TheVariants.{TooLong}

-- how many bytes a text may have
unfoldable pub most_text_bytes : ℕ
most_text_bytes = 2 ^ 30

-- how many bytes of a byte order mark, EF BB BF, the text begins with
abbrev pub mark_len : List ℕ → ℕ
mark_len text = if starts_with nat_eq text (0xEF ∷ 0xBB ∷ 0xBF ∷ []) then 3 else 0

-- the token that a part of the text at the offset `at` is, if it is one
abbrev pub lexeme_at : List ℕ → ℕ → Part → Option Lexeme
lexeme_at text at part =
    option_map (λ kind. record { kind = kind; piece = part.bytes; start = at; line = line_at text at }) part.kind

-- the tokens among parts of the text that begin at the offset `at`
abbrev pub lexemes_among : List ℕ → ℕ → List Part → List Lexeme
lexemes_among text at [] = []
lexemes_among text at (part ∷ parts) =
    cons_option (lexeme_at text at part) (lexemes_among text (at + length part.bytes) parts)

-- Behind the mark, the text is parts and then a rest at which it stops for this cause; the tokens are those among the
-- parts.
abbrev pub IsRead : List ℕ → List Lexeme → Option LexFault → Type 0
IsRead text tokens fault = (parts : List Part) × (rest : List ℕ)
    × Divides (drop (mark_len text) text) parts rest
    × (tokens ≡ lexemes_among text (mark_len text) parts)
    × Stops (length text - length rest) rest fault

-- Reading the text gives this, and meets this first fault or none. A text that is too long is faulty at the limit, and
-- nothing of it is read.
pub record IsReading (text : List ℕ) (lexed : Lexed) (fault : Option LexFault) : Type 0 where
  pub oversize : most_text_bytes < length text → (lexed.lexemes ≡ []) × (fault ≡ Some (TooLong most_text_bytes))
  pub within : length text ≤ most_text_bytes → IsRead text lexed.lexemes fault
  pub end : lexed.end ≡ position_at text (place_of text fault)
