-- The bytes that words, numbers, quoted texts and blanks are made of.
use Rattle.std.specs.Prelude.{ℕ, Bool, not, ◌&&◌, ◌||◌, ◌==◌, nat_le, List, [], ◌∷◌}
use Rattle.std.specs.Prelude.{IsTrue, ◌+◌, take}
use Rattle.std.specs.Char.{is_ascii_alphabetic, is_ascii_alphanumeric}
use Rattle.std.specs.List.{count_by}
use Rattle.dim_name.specs.Bytes.{newline, space, tab}

-- LF, which alone ends a line
abbrev pub is_line_end : ℕ → Bool
is_line_end b = b == newline

-- space, tab, CR and LF
abbrev pub is_white : ℕ → Bool
is_white b = b == space || b == tab || b == 13 || b == newline

-- a letter or _
abbrev pub starts_word : ℕ → Bool
starts_word b = is_ascii_alphabetic b || b == 95

-- a letter, a digit or _
abbrev pub is_word_byte : ℕ → Bool
is_word_byte b = is_ascii_alphanumeric b || b == 95

abbrev pub is_quote : ℕ → Bool
is_quote b = b == 39

-- what may stand in a quoted text: a byte from the space on, other than 0x7F
abbrev pub is_plain : ℕ → Bool
is_plain b = nat_le space b && not (b == 127)

-- the bytes begin with one that passes the test
abbrev pub Begins : (ℕ → Bool) → List ℕ → Type 0
Begins test [] = ⊥
Begins test (b ∷ bs) = IsTrue (test b)

-- the line of an offset: 1 plus the number of line ends before it
abbrev pub line_at : List ℕ → ℕ → ℕ
line_at text at = 1 + count_by is_line_end (take at text)
