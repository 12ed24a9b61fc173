-- How far a text was read.
use Rattle.std.specs.Prelude.{◌≡◌, ℕ, ◌+◌, ◌≤◌, List, length}
use Rattle.cube_lex.specs.Bytes.{line_at}
use Rattle.cube_lex.specs.Reading.{mark_len}
use Rattle.explanation.specs.Places.{front, line_part}
use Rattle.explanation.specs.declared.cursor.TextCursor.{TextCursor}

-- a cursor stands at a byte of this text behind the mark, on its line, and behind so many bytes of that
pub record IsAt (text : List ℕ) (cursor : TextCursor) : Type 0 where
  pub behind_mark : mark_len text ≤ cursor.at
  pub line : cursor.line ≡ line_at text cursor.at
  pub few_lines : cursor.line ≤ cursor.at + 1
  pub part : cursor.part ≡ line_part (front text cursor.at)
  pub few_bytes : cursor.part ≤ cursor.at
  pub within : cursor.part ≤ length text
