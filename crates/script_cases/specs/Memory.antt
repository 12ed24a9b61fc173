-- Cells that are listed in a case.
use Rattle.std.specs.Prelude.{◌≡◌, ℕ, nat_lt, ◌==◌, List, [], ◌∷◌, ◌++◌, length, position}
use Rattle.std.specs.Prelude.{Option, Some, None, Result}
use Rattle.std.specs.Prelude.{slice_get, bytes_eq, if◌then◌else◌}
use Rattle.cube_fixed.specs.declared.value.Value.{Value}
use Rattle.cube_fixed.specs.declared.value.Value.TheVariants.{Num, Over}
use Rattle.script_values.specs.declared.load_reason.LoadReason.{LoadReason}
use Rattle.script_values.specs.declared.load_reason.LoadReason.TheVariants.{NotALeaf, RuleDerived, StoreLimit, FedLimit}
use Rattle.script_values.specs.Cells.{Store, Write, unless}
use Rattle.script_cases.specs.declared.listed.Kind.{Kind}
use Rattle.script_cases.specs.declared.listed.Kind.TheVariants.{Leaf, Total, Ruled}
use Rattle.script_cases.specs.declared.listed.Listed.{Listed}
use Rattle.script_cases.specs.declared.listed.ListedAttribute.{ListedAttribute}
use Rattle.script_cases.specs.declared.listed.ListedDimension.{ListedDimension}
use Rattle.script_cases.specs.Members.{elements_named}
use Rattle.script_cases.specs.Names.{joined}

abbrev pub cell_in : List Listed → List ℕ → List (List ℕ) → Option ℕ
cell_in cells cube elements = position (λ cell. bytes_eq cell.names (joined cube elements)) cells

-- what a cell has after these writes
abbrev pub last_value : ℕ → Value → List Write → Value
last_value cell value [] = value
last_value cell value (write ∷ writes) = last_value cell (if write.0 == cell then Num write.1 else value) writes

abbrev pub value_of : Option Listed → Value
value_of (Some cell) = cell.value
value_of None = Over

abbrev pub closed_kind : Kind → Option LoadReason
closed_kind Leaf = None
closed_kind Total = Some NotALeaf
closed_kind Ruled = Some RuleDerived

abbrev pub closed_at : Option Listed → Option LoadReason
closed_at (Some cell) = closed_kind cell.kind
closed_at None = None

-- whether so many writes are too many to be stored, or else to be fed
abbrev pub full_with : ℕ → ℕ → ℕ → Option LoadReason
full_with stored fed count =
    if nat_lt stored count then Some (StoreLimit count)
    else if nat_lt fed count then Some (FedLimit count) else None

-- so many may be stored, and fed
abbrev pub HasRoom : ℕ → ℕ → List Write → Type 0
HasRoom stored fed writes = full_with stored fed (length writes) ≡ None

-- No cell of a case has others below it: zeroing out an open cell writes a 0 into it.
abbrev pub cleared_at : Option LoadReason → ℕ → List ℕ
cleared_at None cell = cell ∷ []
cleared_at (Some reason) cell = []

abbrev pub store_of : List Listed → List ListedDimension → List ListedAttribute → ℕ → ℕ → Store
store_of cells dimensions attributes stored fed = record {
  cell = cell_in cells;
  value = λ writes cell. last_value cell (value_of (slice_get cells cell)) writes;
  closed = λ cell. closed_at (slice_get cells cell);
  full = λ writes. full_with stored fed (length writes);
  cleared = λ writes cell. cleared_at (closed_at (slice_get cells cell)) cell;
  elements = elements_named dimensions attributes;
}

-- the writes with one more, or why it is one too many
abbrev pub with_write : ℕ → ℕ → List Write → Write → Result (List Write) LoadReason
with_write stored fed writes write =
    unless (full_with stored fed (length (writes ++ write ∷ []))) (writes ++ write ∷ [])
