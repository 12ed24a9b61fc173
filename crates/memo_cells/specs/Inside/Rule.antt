-- The rule: what the words hold, and that each seat knows what they hold.
use Rattle.std.specs.Prelude.{◌≡◌, ◌≢◌, ℕ, ◌+◌, ◌*◌, ◌%◌, ◌<◌, true, List, [], length, slice_index, Some, None}
use mathlib.Core.Option.{some}
use lib.ListN.{get_elem?}
use Rattle.atomic_table.specs.Table.{State}
use Rattle.memo_cells.specs.declared.version.Version.{Version}
use Rattle.memo_cells.specs.declared.version.About.{About}
use Rattle.memo_cells.specs.declared.seat.SeatView.{SeatView}
use Rattle.memo_cells.specs.Values.{cell_value, value_in}
use Rattle.memo_cells.specs.Seats.{key_at, value_at, has_word, has_some}

-- a slot: no value without a key, a key is one more than the number of a cell of this slot, and the value is that
-- cell's
pub record HoldsSlot (about : About) (words : List ℕ) (slot : ℕ) : Type 0 where
  pub empty : slice_index words (key_at slot) ≡ 0 → slice_index words (value_at slot) ≡ 0
  pub named : (cell : ℕ) → slice_index words (key_at slot) ≡ cell + 1 → cell % about.slots ≡ slot
  pub valued : (cell : ℕ) → slice_index words (key_at slot) ≡ cell + 1 → slice_index words (value_at slot) ≢ 0
      → value_in (slice_index words (value_at slot)) ≡ cell_value about.version cell

-- what a seat knows is what the words hold, of the version and the slots of the memo
pub record Fits (about : About) (words : List ℕ) (view : SeatView) : Type 0 where
  pub version : view.version ≡ Some about.version
  pub slots : view.slots ≡ about.slots
  pub known : (at word : ℕ) → has_word view.known at word ≡ true → (slice_index words at ≡ word) × (word ≢ 0)
  pub some : (at : ℕ) → has_some view.known at ≡ true → slice_index words at ≢ 0

-- a seat that was joined away has no version, and the rule doesn't speak of it
pub record IsMemo (about : About) (s : State (Unit {0}) SeatView) : Type 0 where
  pub size : length s.words ≡ 2 * about.slots
  pub slots : (slot : ℕ) → slot < about.slots → HoldsSlot about s.words slot
  pub views : (seat : ℕ) (view : SeatView) (version : Version) → get_elem? s.views seat ≡ some view
      → view.version ≡ Some version → Fits about s.words view

-- the first seat knows nothing
abbrev pub newcomer : About → SeatView
newcomer about =
    record { version = Some about.version; slots = about.slots; known = []; zeros = []; claimed = [] }

-- what is left of a seat that was joined away
abbrev pub nobody : SeatView
nobody = record { version = None; slots = 0; known = []; zeros = []; claimed = [] }
