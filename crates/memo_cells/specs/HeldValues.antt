-- What a reader holds for itself.
use Rattle.std.specs.Prelude.{◌≡◌, ℕ, ◌^◌, true, Some, is_some}
use Rattle.std.specs.BTreeMap.{BTreeMap, get}
use Rattle.std.specs.Ordering.{nat_cmp}
use Rattle.cube_fixed.specs.declared.value.Value.{Value}
use Rattle.memo_cells.specs.Values.{cell_value}
use Rattle.memo_cells.specs.declared.version.Version.{Version}

-- each value is the cell's on this version
abbrev pub AreRight : Version → BTreeMap ℕ Value → Type 0
AreRight version held = (cell : ℕ) (value : Value) → get nat_cmp held cell ≡ Some value
    → value ≡ cell_value version cell

-- how many values a reader holds at most
abbrev pub most_held : ℕ
most_held = 2 ^ 20

-- each cell whose value was held has one still
abbrev pub StaysHeld : BTreeMap ℕ Value → BTreeMap ℕ Value → Type 0
StaysHeld before after = (cell : ℕ) → is_some (get nat_cmp before cell) ≡ true → is_some (get nat_cmp after cell) ≡ true
