-- Where a byte of a text stands, as an editor counts: lines and columns from 1. A byte order mark has no column.
use Rattle.std.specs.Prelude.{ℕ, ◌+◌, ◌-◌, Bool, not, ◌||◌, ◌==◌}
use Rattle.std.specs.Prelude.{List, length, drop, take, take_while, reverse}
use Rattle.cube_lex.specs.Bytes.{is_line_end}
use Rattle.cube_lex.specs.Reading.{mark_len}

-- how many bytes of a line are shown
abbrev pub most_shown : ℕ
most_shown = 200

-- the bytes from the text's beginning, which the mark isn't, up to an offset
abbrev pub front : List ℕ → ℕ → List ℕ
front text at = drop (mark_len text) (take at text)

abbrev pub is_within_line : ℕ → Bool
is_within_line byte = not (is_line_end byte)

-- how many of these bytes stand behind their last line end
abbrev pub line_part : List ℕ → ℕ
line_part bytes = length (take_while is_within_line (reverse bytes))

-- the column of the byte at an offset
abbrev pub column_at : List ℕ → ℕ → ℕ
column_at text at = line_part (front text at) + 1

-- LF ends a line, and CR before it isn't shown
abbrev pub is_shown : ℕ → Bool
is_shown byte = not (is_line_end byte || byte == 13)

-- bytes up to the end of their line, as they are shown
abbrev pub shown : List ℕ → List ℕ
shown bytes = take most_shown (take_while is_shown bytes)

-- the line of the byte at an offset, as it is shown
abbrev pub shown_line : List ℕ → ℕ → List ℕ
shown_line text at = shown (drop (at - line_part (front text at)) text)
