-- What a seat knows, by the words that it has seen.
use Rattle.std.specs.Prelude.{◌≡◌, ℕ, ◌+◌, ◌*◌, ◌%◌, ◌==◌, Bool, not, ◌&&◌, List, [], ◌∷◌, Some, if◌then◌else◌}
use Rattle.std.specs.List.{list_any}
use Rattle.memo_cells.specs.declared.version.Version.{Version}
use Rattle.memo_cells.specs.declared.seat.SeatView.{SeatView}
use Rattle.memo_cells.specs.declared.seat.MemoSeat.{MemoSeat}
use Rattle.memo_cells.specs.declared.memo.Memo.{Memo}
use Rattle.memo_cells.specs.Knowledge.{Knowledge}

-- the key word and the value word of a slot
abbrev pub key_at : ℕ → ℕ
key_at slot = 2 * slot

abbrev pub value_at : ℕ → ℕ
value_at slot = 2 * slot + 1

-- whether the word at a place is known to be this one, or to be some word
abbrev pub has_word : List (ℕ × ℕ) → ℕ → ℕ → Bool
has_word known at word = list_any (λ p. (p.0 == at) && (p.1 == word)) known

abbrev pub has_some : List (ℕ × ℕ) → ℕ → Bool
has_some known at = list_any (λ p. p.0 == at) known

-- how often a number stands in a list
abbrev pub times : ℕ → List ℕ → ℕ
times x [] = 0
times x (y ∷ ys) = (if y == x then 1 else 0) + times x ys

-- of a slot and a cell in it: the key word is the cell's, and the value word is there
abbrev pub knows_in : SeatView → ℕ → ℕ → Bool
knows_in view slot cell = has_word view.known (key_at slot) (cell + 1) && has_some view.known (value_at slot)

-- of a slot and a cell in it, and another cell: the key word is that of the other one
abbrev pub names_in : SeatView → ℕ → ℕ → ℕ → Bool
names_in view slot cell other = has_word view.known (key_at slot) (other + 1) && not (other == cell)

-- how often a word of the slot was found to be 0
abbrev pub zeros_in : SeatView → ℕ → ℕ
zeros_in view slot = times (key_at slot) view.zeros + times (value_at slot) view.zeros

-- the slot of a cell is its number modulo the count of slots
abbrev pub known_by : SeatView → Knowledge
known_by view =
    record {
      knows = λ cell. knows_in view (cell % view.slots) cell;
      names = λ cell other. names_in view (cell % view.slots) cell other;
      zeros = λ cell. zeros_in view (cell % view.slots);
    }

-- what a seat knows
abbrev pub knowledge : MemoSeat → Knowledge
knowledge seat = known_by seat.seat.me.0

-- the cells for which a seat has claimed their slots, the last one first
abbrev pub claimed : MemoSeat → List ℕ
claimed seat = seat.seat.me.0.claimed

-- what a memo is of, and the count of its slots
abbrev pub version_of : Memo → Version
version_of memo = memo.table.shared.key.version

abbrev pub slots_of : Memo → ℕ
slots_of memo = memo.table.shared.key.slots

-- the seat is at this memo
pub record IsAt (memo : Memo) (seat : MemoSeat) : Type 0 where
  pub table : seat.seat.table_id ≡ memo.table.shared.table_id
  pub version : seat.seat.me.0.version ≡ Some (version_of memo)
  pub slots : seat.seat.me.0.slots ≡ slots_of memo
