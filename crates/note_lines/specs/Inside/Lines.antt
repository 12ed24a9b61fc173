-- The lines of the notes of one rule text.
use Rattle.std.specs.Prelude.{◌≡◌, ℕ, List, [], ◌∷◌, ◌++◌, Option, Some, None}
use Rattle.cube_lex.specs.Lexed.{Lexed}
use Rattle.cube_lex.specs.Lexeme.{Lexeme}
use Rattle.cube_lex.specs.Reading.{IsReading}
use Rattle.cube_lex.specs.declared.fault.LexFault.{LexFault}
use Rattle.rule_notes.specs.declared.note.Note.{Note}
use Rattle.note_lines.specs.Notes.{note_line, noted_tokens}

-- one after another, by the tokens of the text
abbrev pub lines_by : List ℕ → List ℕ → List Lexeme → List Note → List ℕ
lines_by file text tokens [] = []
lines_by file text tokens (note ∷ notes) =
    note_line file text note (noted_tokens note tokens) ++ lines_by file text tokens notes

-- the lines of these notes in the text of this file
pub record AreTextLines (file text : List ℕ) (notes : List Note) (lines : List ℕ) : Type 0 where
  pub lexed : Lexed
  pub fault : Option LexFault
  pub reading : IsReading text lexed fault
  pub are : lines ≡ lines_by file text lexed.lexemes notes

-- and none where the file wasn't read
abbrev pub AreFileLines : List ℕ → Option (List ℕ) → List Note → List ℕ → Type 0
AreFileLines file None notes lines = lines ≡ []
AreFileLines file (Some text) notes lines = AreTextLines file text notes lines
