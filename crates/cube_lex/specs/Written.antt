-- Texts that are written token by token.
use Rattle.std.specs.Prelude.{◌≡◌, ℕ, ◌+◌, ◌≤◌, IsTrue, List, [], ◌∷◌, ◌++◌, length, map, None}
use Rattle.std.specs.List.{list_all}
use Rattle.cube_lex.specs.Bytes.{is_white, is_plain}
use Rattle.cube_lex.specs.Lexed.{Lexed}
use Rattle.cube_lex.specs.Lexeme.{Lexeme}
use Rattle.cube_lex.specs.Parts.{IsToken, most_token_bytes}
use Rattle.cube_lex.specs.Quoted.{quoted}
use Rattle.cube_lex.specs.Reading.{IsReading}
use Rattle.cube_lex.specs.declared.token.Kind.{Kind}
use Rattle.cube_lex.specs.declared.token.Kind.TheVariants.{Word, Number, Text, Sign}

-- a token wherever it stands: its kind and its bytes
pub record Spelling : Type 0 where
  pub kind : Kind
  pub piece : List ℕ

abbrev pub spelling_of : Lexeme → Spelling
spelling_of lexeme = record { kind = lexeme.kind; piece = lexeme.piece }

-- The bytes are these tokens, and behind each at least one byte of white space.
abbrev pub IsWritten : List Spelling → List ℕ → Type 0
IsWritten [] bytes = IsTrue (list_all is_white bytes)
IsWritten (token ∷ tokens) bytes = (before after : List ℕ) × (white : ℕ)
    × (bytes ≡ before ++ (token.piece ++ white ∷ after)) × IsTrue (list_all is_white before) × IsTrue (is_white white)
    × IsToken token.kind token.piece × (length token.piece ≤ most_token_bytes)
    × IsWritten tokens after

-- the tokens that are written

abbrev pub word_token : List ℕ → Spelling
word_token word = record { kind = Word; piece = word }

abbrev pub number_token : List ℕ → Spelling
number_token digits = record { kind = Number; piece = digits }

abbrev pub sign_token : List ℕ → Spelling
sign_token sign = record { kind = Sign; piece = sign }

-- the bytes in quotes
abbrev pub text_token : List ℕ → Spelling
text_token bytes = record { kind = Text; piece = quoted bytes }

-- the bytes may stand in a quoted text, which isn't too long for a token
abbrev pub IsQuotable : List ℕ → Type 0
IsQuotable bytes = IsTrue (list_all is_plain bytes) × (length (quoted bytes) ≤ most_token_bytes)

-- how many bytes the tokens take, each with a space behind it
abbrev pub spaced_size : List Spelling → ℕ
spaced_size [] = 0
spaced_size (token ∷ tokens) = length token.piece + 1 + spaced_size tokens

-- how many they take at most, where behind each there is perhaps a line end, too
abbrev pub most_size : List Spelling → ℕ
most_size [] = 0
most_size (token ∷ tokens) = length token.piece + 2 + most_size tokens

-- new is old with these tokens written at its end, in at most so many bytes
abbrev pub AddsWithin : ℕ → List ℕ → List ℕ → List Spelling → Type 0
AddsWithin most old new tokens =
    (bytes : List ℕ) × (new ≡ old ++ bytes) × IsWritten tokens bytes × (length bytes ≤ most)

-- on one line
abbrev pub Spaces : List ℕ → List ℕ → List Spelling → Type 0
Spaces old new tokens = AddsWithin (spaced_size tokens) old new tokens

-- on lines of their own
abbrev pub Writes : List ℕ → List ℕ → List Spelling → Type 0
Writes old new tokens = AddsWithin (most_size tokens) old new tokens

-- the text is read as just these tokens, without a fault
abbrev pub HasReading : List Spelling → List ℕ → Type 0
HasReading tokens text = (lexed : Lexed) × IsReading text lexed None × (map spelling_of lexed.lexemes ≡ tokens)

-- new is old with these tokens written at its end
abbrev pub Adds : List ℕ → List ℕ → List Spelling → Type 0
Adds old new tokens = (bytes : List ℕ) × (new ≡ old ++ bytes) × IsWritten tokens bytes
