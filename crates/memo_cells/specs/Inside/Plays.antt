-- What each step on a word changes of what a seat knows, and what it tells of the word that it found.
use Rattle.std.specs.Prelude.{◌≡◌, ◌≢◌, ℕ, ◌+◌, ◌-◌, ◌%◌, ◌==◌, true, [], ◌∷◌, ◌++◌, Some, if◌then◌else◌}
use Rattle.atomic_table.specs.Table.{Step, Me}
use Rattle.memo_cells.specs.declared.version.Version.{Version}
use Rattle.memo_cells.specs.declared.seat.SeatView.{SeatView}
use Rattle.memo_cells.specs.Values.{cell_value, value_in}
use Rattle.memo_cells.specs.Seats.{key_at, value_at, has_word, has_some}

abbrev pub Sitting : Type 0
Sitting = Me (Unit {0}) SeatView

-- it knows this word, found this word empty, has claimed this cell
abbrev pub learned : SeatView → ℕ → ℕ → SeatView
learned v at word =
    record { version = v.version; slots = v.slots; known = (at, word) ∷ v.known; zeros = v.zeros; claimed = v.claimed }

abbrev pub missed : SeatView → ℕ → SeatView
missed v at =
    record { version = v.version; slots = v.slots; known = v.known; zeros = at ∷ v.zeros; claimed = v.claimed }

abbrev pub claiming : SeatView → ℕ → SeatView
claiming v cell =
    record { version = v.version; slots = v.slots; known = v.known; zeros = v.zeros; claimed = cell ∷ v.claimed }

-- the word found is the one that was known; a key is of a cell of its slot; a value is that of the cell which the key
-- is known to name
pub record Found (v : SeatView) (at word : ℕ) : Type 0 where
  pub known : (w : ℕ) → has_word v.known at w ≡ true → word ≡ w
  pub some : has_some v.known at ≡ true → word ≢ 0
  pub named : (slot cell : ℕ) → at ≡ key_at slot → word ≡ cell + 1 → cell % v.slots ≡ slot
  pub valued : (slot cell : ℕ) (version : Version) → v.version ≡ Some version → at ≡ value_at slot
      → has_word v.known (key_at slot) (cell + 1) ≡ true → word ≢ 0 → value_in word ≡ cell_value version cell

-- a load: it knows the word, or has found it empty
abbrev pub after_load : SeatView → ℕ → ℕ → SeatView
after_load v at word = if word == 0 then missed v at else learned v at word

-- an exchange of 0 for the key of a cell: it knows the key that is then there, and has claimed it where it was 0
abbrev pub after_claim : SeatView → ℕ → ℕ → ℕ → SeatView
after_claim v at key word = if word == 0 then claiming (learned v at key) (key - 1) else learned v at word

-- an exchange of 0 for a value: it knows the value that is then there
abbrev pub after_put : SeatView → ℕ → ℕ → ℕ → SeatView
after_put v at value word = if word == 0 then learned v at value else learned v at word

abbrev pub loads : Step (Unit {0}) → Sitting → ℕ → Sitting → Type 0
loads st m word m' = (m' ≡ (after_load m.0 st.word word, m.1)) × Found m.0 st.word word

abbrev pub claims : Step (Unit {0}) → Sitting → ℕ → Sitting → Type 0
claims st m word m' = (m' ≡ (after_claim m.0 st.word st.second word, m.1)) × Found m.0 st.word word

abbrev pub puts : Step (Unit {0}) → Sitting → ℕ → Sitting → Type 0
puts st m word m' = (m' ≡ (after_put m.0 st.word st.second word, m.1)) × Found m.0 st.word word

-- another seat knows what this one knows, and has claimed nothing
abbrev pub another : SeatView → SeatView
another v = record { version = v.version; slots = v.slots; known = v.known; zeros = v.zeros; claimed = [] }

-- a seat that takes in another one knows what both knew
abbrev pub together : SeatView → SeatView → SeatView
together v w =
    record {
      version = v.version;
      slots = v.slots;
      known = v.known ++ w.known;
      zeros = v.zeros ++ w.zeros;
      claimed = v.claimed ++ w.claimed;
    }
