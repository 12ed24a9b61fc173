-- The lines that explain a refusal.
use Rattle.std.specs.Prelude.{◌≡◌, ℕ, List, [], ◌∷◌, ◌++◌, Option, Some, None, codes, decimal}
use Rattle.cube_lex.specs.Bytes.{line_at}
use Rattle.cube_lex.specs.Lexed.{Lexed}
use Rattle.cube_lex.specs.Lexeme.{Lexeme}
use Rattle.cube_lex.specs.Reading.{IsReading}
use Rattle.cube_lex.specs.declared.fault.LexFault.{LexFault}
use Rattle.dim_name.specs.Bytes.{newline}
use Rattle.file_passes.specs.Pass.{Readings, bytes_of}
use Rattle.file_passes.specs.declared.refusal.Cause.{Cause}
use Rattle.file_passes.specs.declared.refusal.Cause.TheVariants as causes
use Rattle.file_passes.specs.declared.refusal.FilePlace.{FilePlace}
use Rattle.file_passes.specs.declared.refusal.FilePlace.TheVariants.{Text, Statement, Feeder}
use Rattle.file_passes.specs.declared.refusal.Refusal.{Refusal}
use Rattle.explanation.specs.Limits.{limit_of, word_at}
use Rattle.explanation.specs.Operands.{operand_tokens}
use Rattle.explanation.specs.Places.{column_at, shown, shown_line}
use Rattle.explanation.specs.declared.lines.Spot.{Spot}
use Rattle.explanation.specs.Statements.{tokens_from, reference_tokens}
use Rattle.explanation.specs.Written.{begin_of, written}

-- of the tokens of a statement or feeder, those from where this cause stands on: from a reference, from an operand, or
-- else all
abbrev pub tokens_at : Cause → List Lexeme → List Lexeme
tokens_at (causes.Unlagged reference) tokens = reference_tokens reference tokens
tokens_at (causes.NotEarlier reference) tokens = reference_tokens reference tokens
tokens_at (causes.NotFed operand) tokens = operand_tokens operand tokens
tokens_at _ tokens = tokens

-- what is said of the part of a statement where this cause stands, if anything is
abbrev pub word_of : Cause → List ℕ
word_of (causes.Unlagged reference) = codes "  reads "
word_of (causes.NotEarlier reference) = codes "  reads "
word_of (causes.NotFed operand) = codes "  operand "
word_of _ = []

-- the word, and the part as the file has it
abbrev pub part_line : List ℕ → List ℕ → List ℕ
part_line [] part = []
part_line (byte ∷ word) part = byte ∷ word ++ shown part ++ newline ∷ []

-- where in a text a cause stands, and what is said of that part of a statement
abbrev pub spot_of : List ℕ → Cause → List Lexeme → Spot
spot_of text cause tokens =
    record { at = begin_of tokens; part = part_line (word_of cause) (written text tokens) }

-- the same of a statement or feeder of a text, by a refusal
pub record IsSpot (text : List ℕ) (refusal : Refusal) (spot : Spot) : Type 0 where
  pub lexed : Lexed
  pub fault : Option LexFault
  pub reading : IsReading text lexed fault
  pub is : spot ≡ spot_of text refusal.cause (tokens_at refusal.cause (tokens_from refusal.at lexed.lexemes))

-- where in a text a refusal is shown
abbrev pub IsShown : List ℕ → Refusal → FilePlace → Spot → Type 0
IsShown text refusal (Text place) spot = spot ≡ record { at = place.offset; part = [] }
IsShown text refusal (Statement statement) spot = IsSpot text refusal spot
IsShown text refusal (Feeder feeder) spot = IsSpot text refusal spot

-- `FILE:LINE:COLUMN`, by the numbers of the line and the column, and by the offset of a byte of the file's text
abbrev pub numbered_place : List ℕ → ℕ → ℕ → List ℕ
numbered_place file line column = file ++ codes ":" ++ decimal line ++ codes ":" ++ decimal column

abbrev pub place_text : List ℕ → List ℕ → ℕ → List ℕ
place_text file text at = numbered_place file (line_at text at) (column_at text at)

-- `  at `, and the place
abbrev pub at_line : List ℕ → List ℕ → ℕ → List ℕ
at_line file text at = codes "  at " ++ place_text file text at ++ newline ∷ []

-- `  | `, and the line of the text
abbrev pub text_line : List ℕ → ℕ → List ℕ
text_line text at = codes "  | " ++ shown_line text at ++ newline ∷ []

-- `  limit `, and the limit that is passed
abbrev pub limit_line : List ℕ → List ℕ
limit_line [] = []
limit_line (byte ∷ limit) = codes "  limit " ++ byte ∷ limit ++ newline ∷ []

-- where in the file that was read a refusal stands, what the file has there, and the limit that is passed; nothing
-- where none was read
abbrev pub IsExplained : Refusal → Option (List ℕ) → List ℕ → Type 0
IsExplained refusal None lines = lines ≡ []
IsExplained refusal (Some text) lines = (spot : Spot) × IsShown text refusal refusal.at spot
    × (lines ≡ at_line refusal.file text spot.at ++ text_line text spot.at ++ spot.part
    ++ limit_line (limit_of refusal.cause (word_at text spot.at)))

-- the lines behind a refusal, over the files that were read
abbrev pub IsExplanation : Readings → Refusal → List ℕ → Type 0
IsExplanation readings refusal lines = IsExplained refusal (bytes_of readings refusal.file) lines
