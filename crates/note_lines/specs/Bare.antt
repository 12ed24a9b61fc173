-- Consolidated elements without components: such an element takes numbers as a leaf does.
use Rattle.std.specs.Prelude.{◌≡◌, ℕ, Bool, ◌&&◌, if◌then◌else◌, List, [], ◌∷◌, ◌++◌, drop, Option, Some, None, codes}
use Rattle.std.specs.Prelude.{slice_get}
use Rattle.std.specs.Option.{option_map_or}
use Rattle.cube_lex.specs.Lexed.{Lexed}
use Rattle.cube_lex.specs.Lexeme.{Lexeme}
use Rattle.cube_lex.specs.Reading.{IsReading}
use Rattle.cube_lex.specs.declared.fault.LexFault.{LexFault}
use Rattle.dim_name.specs.Bytes.{newline}
use Rattle.explanation.specs.Explanation.{place_text}
use Rattle.file_passes.specs.Pass.{Readings, bytes_of}
use Rattle.grammar.specs.Reading.{starts}
use Rattle.grammar.specs.Tokens.{is_sign, is_text, is_word}

-- a quoted text and `;`
abbrev pub names_alone : List Lexeme → Bool
names_alone next = starts is_text next && starts (is_sign (codes ";")) (drop 1 next)

-- in a model text, `C`, the element's name and `;`
abbrev pub is_bare : Lexeme → List Lexeme → Bool
is_bare token next = is_word (codes "C") token && names_alone next

-- the first of these tokens as it is written
abbrev pub first_piece : List Lexeme → List ℕ
first_piece tokens = option_map_or (λ token. token.piece) (slice_get tokens 0) []

-- `note FILE:LINE:COLUMN NoComponents 'ELEMENT'`
abbrev pub bare_line : List ℕ → List ℕ → Lexeme → List Lexeme → List ℕ
bare_line file text token next =
    codes "note " ++ place_text file text token.start ++ codes " NoComponents " ++ first_piece next ++ newline ∷ []

-- the lines of all of them, in order
abbrev pub bare_lines : List ℕ → List ℕ → List Lexeme → List ℕ
bare_lines file text [] = []
bare_lines file text (token ∷ tokens) =
    if is_bare token tokens then bare_line file text token tokens ++ bare_lines file text tokens
    else bare_lines file text tokens

-- those of a model text of this file
pub record AreBareLines (file text lines : List ℕ) : Type 0 where
  pub lexed : Lexed
  pub fault : Option LexFault
  pub reading : IsReading text lexed fault
  pub are : lines ≡ bare_lines file text lexed.lexemes

-- and none where the file wasn't read
abbrev pub AreBareIn : List ℕ → Option (List ℕ) → List ℕ → Type 0
AreBareIn file None lines = lines ≡ []
AreBareIn file (Some text) lines = AreBareLines file text lines
