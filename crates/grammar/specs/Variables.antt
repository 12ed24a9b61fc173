-- Which words may name a variable of a load script, as its parameters do. Words are given in capitals.
use Rattle.std.specs.Prelude.{ℕ, nat_le, ◌==◌, Bool, false, not, ◌&&◌, ◌||◌, List, [], ◌∷◌, length, codes, bytes_eq}
use Rattle.std.specs.Char.{is_ascii_digit}
use Rattle.std.specs.List.{list_all, list_any}

abbrev pub statement_words : List (List ℕ)
statement_words = codes "IF" ∷ codes "ELSEIF" ∷ codes "ELSE" ∷ codes "ENDIF" ∷ codes "WHILE" ∷ codes "END"
    ∷ codes "CELLPUTN" ∷ codes "CELLINCREMENTN" ∷ codes "ITEMSKIP" ∷ codes "PROCESSBREAK" ∷ codes "PROCESSERROR" ∷ []

abbrev pub function_words : List (List ℕ)
function_words = codes "CELLGETN" ∷ codes "ABS" ∷ codes "SIGN" ∷ codes "INT" ∷ codes "ROUND" ∷ codes "STRINGTONUMBER"
    ∷ codes "NUMBERTOSTRING" ∷ codes "MAX" ∷ codes "MIN" ∷ []

-- whether the word is one of these
abbrev pub is_among : List (List ℕ) → List ℕ → Bool
is_among words word = list_any (bytes_eq word) words

-- one to four digits, the first of which isn't 0
abbrev pub is_column_number : List ℕ → Bool
is_column_number [] = false
is_column_number (digit ∷ digits) =
    not (digit == 48) && list_all is_ascii_digit (digit ∷ digits) && nat_le (length digits) 3

-- a column of the record that is loaded, from V1 to V9999
abbrev pub is_column : List ℕ → Bool
is_column [] = false
is_column (letter ∷ digits) = letter == 86 && is_column_number digits

-- any other word that means nothing else
abbrev pub is_variable : List ℕ → Bool
is_variable word = not (is_column word || is_among statement_words word || is_among function_words word)
