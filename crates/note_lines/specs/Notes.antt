-- The lines of what is accepted in a model and hardly ever meant.
use Rattle.std.specs.Prelude.{◌≡◌, ℕ, Bool, if◌then◌else◌, List, [], ◌∷◌, ◌++◌, Option, Some, None, codes, decimal}
use Rattle.std.specs.Prelude.{slice_index_or}
use Rattle.cube_lex.specs.Lexed.{Lexed}
use Rattle.cube_lex.specs.Lexeme.{Lexeme}
use Rattle.cube_lex.specs.Reading.{IsReading}
use Rattle.cube_lex.specs.declared.fault.LexFault.{LexFault}
use Rattle.dim_name.specs.Bytes.{newline}
use Rattle.explanation.specs.Explanation.{place_text}
use Rattle.explanation.specs.Statements.{reference_tokens, tokens_from}
use Rattle.explanation.specs.Written.{begin_of}
use Rattle.file_passes.specs.Pass.{Readings, bytes_of}
use Rattle.file_passes.specs.declared.refusal.FilePlace.TheVariants.{Statement}
use Rattle.rule_model.specs.BoundModel.{BoundModel}
use Rattle.rule_notes.specs.Noted.{notes_of}
use Rattle.rule_notes.specs.declared.note.Note.{Note}
use Rattle.rule_notes.specs.declared.note.Note.TheVariants.{NotReached, NamesNothing}
use Rattle.note_lines.specs.Bare.{AreBareIn}

-- the cube of a note, from 0, and its statement, from 1
abbrev pub cube_of : Note → ℕ
cube_of (NotReached cube statement leaf by) = cube
cube_of (NamesNothing cube statement reference) = cube

abbrev pub statement_of : Note → ℕ
statement_of (NotReached cube statement leaf by) = statement
statement_of (NamesNothing cube statement reference) = statement

-- of the tokens of its statement, those from where it stands on
abbrev pub tokens_at : Note → List Lexeme → List Lexeme
tokens_at (NotReached cube statement leaf by) tokens = tokens
tokens_at (NamesNothing cube statement reference) tokens = reference_tokens reference tokens

-- of the tokens of a rule text, those from where it stands on
abbrev pub noted_tokens : Note → List Lexeme → List Lexeme
noted_tokens note tokens = tokens_at note (tokens_from (Statement (statement_of note)) tokens)

-- the mark of a part for leaf cells or for consolidated ones
abbrev pub mark : Bool → List ℕ
mark leaf = if leaf then codes "N" else codes "C"

abbrev pub reached_text : Bool → ℕ → List ℕ
reached_text leaf by = codes " NotReached " ++ (mark leaf ++ (codes " by statement " ++ decimal by))

-- what it says
abbrev pub note_text : Note → List ℕ
note_text (NotReached cube statement leaf by) = reached_text leaf by
note_text (NamesNothing cube statement reference) = codes " NamesNothing reference " ++ decimal reference

-- `note FILE:LINE:COLUMN ` and what it says, by the tokens from where it stands on
abbrev pub note_line : List ℕ → List ℕ → Note → List Lexeme → List ℕ
note_line file text note tokens =
    codes "note " ++ place_text file text (begin_of tokens) ++ note_text note ++ newline ∷ []

-- the same by the text of its file
pub record IsNoteLine (file text : List ℕ) (note : Note) (line : List ℕ) : Type 0 where
  pub lexed : Lexed
  pub fault : Option LexFault
  pub reading : IsReading text lexed fault
  pub is : line ≡ note_line file text note (noted_tokens note lexed.lexemes)

-- the line of a note in the file of this name, and none where that wasn't read
abbrev pub IsLineIn : List ℕ → Note → Option (List ℕ) → List ℕ → Type 0
IsLineIn file note None line = line ≡ []
IsLineIn file note (Some text) line = IsNoteLine file text note line

-- the line of a note, where these are the names of the rule files, one of each cube
abbrev pub IsLineOf : Readings → List (List ℕ) → Note → List ℕ → Type 0
IsLineOf readings files note line =
    IsLineIn (slice_index_or files (cube_of note) []) note
    (bytes_of readings (slice_index_or files (cube_of note) [])) line

-- the lines of these notes, one after another
abbrev pub AreLinesOf : Readings → List (List ℕ) → List Note → List ℕ → Type 0
AreLinesOf readings files [] lines = lines ≡ []
AreLinesOf readings files (note ∷ notes) lines =
    (line rest : List ℕ) × IsLineOf readings files note line × AreLinesOf readings files notes rest
    × (lines ≡ line ++ rest)

-- the lines of the notes of a model: of the file of its text, and then of the rule files of these names, one of each
-- cube
pub record AreNotes (readings : Readings) (file : List ℕ) (files : List (List ℕ)) (model : BoundModel) (lines : List ℕ)
    : Type 0 where
  pub bare : List ℕ
  pub are_bare : AreBareIn file (bytes_of readings file) bare
  pub rules : List ℕ
  pub are_rules : AreLinesOf readings files (notes_of model) rules
  pub is : lines ≡ bare ++ rules
