-- The parts of a text: tokens, white space and comments, each as long as can be.
use Rattle.std.specs.Prelude.{◌≡◌, ℕ, ◌≤◌, ◌⊎◌, not, IsTrue, List, [], ◌∷◌, ◌++◌, length, codes, bytes_eq, Bool}
use Rattle.std.specs.Prelude.{Contains}
use Rattle.std.specs.Prelude.{Option, Some, None}
use Rattle.std.specs.Char.{is_ascii_digit}
use Rattle.std.specs.List.{list_all, list_any}
use Rattle.cube_lex.specs.Bytes.{Begins, is_white, is_line_end, is_quote, is_plain, starts_word, is_word_byte}
use Rattle.cube_lex.specs.Quoted.{quoted}
use Rattle.cube_lex.specs.declared.token.Kind.{Kind}
use Rattle.cube_lex.specs.declared.token.Kind.TheVariants.{Word, Number, Text, Sign}

-- A word is a letter or _, and then letters, digits and _.
abbrev pub IsWord : List ℕ → Type 0
IsWord [] = ⊥
IsWord (b ∷ bs) = IsTrue (starts_word b) × IsTrue (list_all is_word_byte bs)

-- one digit or more
abbrev pub IsDigits : List ℕ → Type 0
IsDigits [] = ⊥
IsDigits (b ∷ bs) = IsTrue (list_all is_ascii_digit (b ∷ bs))

-- A number is digits, and optionally a point and digits.
abbrev pub IsNumber : List ℕ → Type 0
IsNumber bytes = IsDigits bytes
    ⊎ ((whole fraction : List ℕ) × IsDigits whole × IsDigits fraction × (bytes ≡ whole ++ 46 ∷ fraction))

-- A quoted text is some bytes that may stand there, quoted.
abbrev pub IsQuoted : List ℕ → Type 0
IsQuoted piece = (bytes : List ℕ) × IsTrue (list_all is_plain bytes) × (piece ≡ quoted bytes)

abbrev pub signs : List (List ℕ)
signs = codes "@<>" ∷ codes "=>" ∷ codes "<>" ∷ codes "<=" ∷ codes ">=" ∷ codes "@="
    ∷ codes "[" ∷ codes "]" ∷ codes "{" ∷ codes "}" ∷ codes "(" ∷ codes ")" ∷ codes "," ∷ codes ";" ∷ codes ":"
    ∷ codes "=" ∷ codes "<" ∷ codes ">" ∷ codes "+" ∷ codes "-" ∷ codes "*" ∷ codes "/" ∷ codes "\\"
    ∷ codes "&" ∷ codes "%" ∷ codes "~" ∷ codes "!" ∷ codes "|" ∷ []

-- whether the bytes are a sign, by the table
abbrev pub is_sign : List ℕ → Bool
is_sign bytes = list_any (bytes_eq bytes) signs

abbrev pub IsToken : Kind → List ℕ → Type 0
IsToken Word = IsWord
IsToken Number = IsNumber
IsToken Text = IsQuoted
IsToken Sign = Contains signs

abbrev pub IsSpace : List ℕ → Type 0
IsSpace [] = ⊥
IsSpace (b ∷ bs) = IsTrue (list_all is_white (b ∷ bs))

-- A comment is # and what follows it on its line.
abbrev pub IsComment : List ℕ → Type 0
IsComment [] = ⊥
IsComment (b ∷ bs) = (b ≡ 35) × IsTrue (list_all (λ c. not (is_line_end c)) bs)

-- the bytes are one of these, and nothing longer that begins here is
abbrev pub IsLongest : (List ℕ → Type 0) → List ℕ → List ℕ → Type 0
IsLongest Is bytes rest = Is bytes
    × ((longer more : List ℕ) → Is longer → longer ++ more ≡ bytes ++ rest → length longer ≤ length bytes)

-- A token of the kind stands before the rest. Quotes are paired from the left, so no quote follows a quoted text.
abbrev pub Stands : Kind → List ℕ → List ℕ → Type 0
Stands Word = IsLongest IsWord
Stands Number = IsLongest IsNumber
Stands Text = λ piece rest. IsQuoted piece × ¬ Begins is_quote rest
Stands Sign = IsLongest (Contains signs)

-- a part of a text: a token of a kind, or white space or a comment, which have none
pub record Part : Type 0 where
  pub kind : Option Kind
  pub bytes : List ℕ

-- how many bytes a token may have
abbrev pub most_token_bytes : ℕ
most_token_bytes = 1024

-- white space, a comment, or a token of the kind that isn't too long stands before the rest
abbrev pub IsPart : Option Kind → List ℕ → List ℕ → Type 0
IsPart None bytes rest = IsLongest IsSpace bytes rest ⊎ IsLongest IsComment bytes rest
IsPart (Some kind) bytes rest = Stands kind bytes rest × (length bytes ≤ most_token_bytes)

-- the text is these parts, one after another, and then the rest
abbrev pub Divides : List ℕ → List Part → List ℕ → Type 0
Divides text [] rest = text ≡ rest
Divides text (part ∷ parts) rest =
    (after : List ℕ) × (text ≡ part.bytes ++ after) × IsPart part.kind part.bytes after × Divides after parts rest
