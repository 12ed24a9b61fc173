-- The cells that a load reads and writes.
use Rattle.std.specs.Prelude.{ℕ, ℤ, pos, List, [], ◌∷◌, ◌++◌, Option, Some, None, is_none, Result, Ok, Err, Bool, false}
use Rattle.cube_fixed.specs.declared.value.Value.{Value}
use Rattle.cube_fixed.specs.declared.value.Value.TheVariants.{Num, Over}
use Rattle.script_values.specs.declared.load_reason.LoadReason.{LoadReason}
use Rattle.script_values.specs.declared.load_reason.LoadReason.TheVariants.{UnknownName, OverWrite}
use Rattle.script_values.specs.Elements.{Elements}

-- a cell and the millionths that are written into it
abbrev pub Write : Type 0
Write = ℕ × ℤ

-- what a load runs on: a model and a stored list, and what they give after the writes so far, the last of a cell
-- winning
pub record Store : Type 0 where
  -- the cell of a cube and elements, by their names; None where one is unknown or the count of elements is wrong
  pub cell : List ℕ → List (List ℕ) → Option ℕ
  -- the value of a cell after these writes
  pub value : List Write → ℕ → Value
  -- NotALeaf for a consolidated cell, RuleDerived for a leaf cell that isn't open for input
  pub closed : ℕ → Option LoadReason
  -- StoreLimit where the store with these writes holds too many cells, else FedLimit where its fed cells are too many
  pub full : List Write → Option LoadReason
  -- the leaf cells at a cell or counting in it that are stored after these writes and open for input, rising
  pub cleared : List Write → ℕ → List ℕ
  -- the elements of the dimension of a name; None where there is no such dimension
  pub elements : List ℕ → Option Elements

abbrev pub value_in : Store → List Write → Option ℕ → Result Value LoadReason
value_in store writes (Some cell) = Ok (store.value writes cell)
value_in store writes None = Err UnknownName

-- what reading a cell gives
abbrev pub reading : Store → List Write → List ℕ → List (List ℕ) → Result Value LoadReason
reading store writes cube elements = value_in store writes (store.cell cube elements)

-- what follows where no reason is against it
abbrev pub unless_refused : Option LoadReason → Result (List Write) LoadReason → Result (List Write) LoadReason
unless_refused None after = after
unless_refused (Some reason) after = Err reason

abbrev pub unless : Option LoadReason → List Write → Result (List Write) LoadReason
unless reason writes = unless_refused reason (Ok writes)

abbrev pub with_number : Store → List Write → ℕ → Value → Result (List Write) LoadReason
with_number store writes cell Over = Err OverWrite
with_number store writes cell (Num millionths) =
    unless (store.full (writes ++ (cell, millionths) ∷ [])) (writes ++ (cell, millionths) ∷ [])

abbrev pub with_value : Store → List Write → ℕ → Value → Option LoadReason → Result (List Write) LoadReason
with_value store writes cell value None = with_number store writes cell value
with_value store writes cell value (Some reason) = Err reason

abbrev pub with_cell : Store → List Write → Value → Option ℕ → Result (List Write) LoadReason
with_cell store writes value (Some cell) = with_value store writes cell value (store.closed cell)
with_cell store writes value None = Err UnknownName

-- the writes with one more, or the first reason that refuses it: UnknownName, NotALeaf, RuleDerived, OverWrite,
-- StoreLimit, FedLimit, in this order
abbrev pub writing : Store → List Write → List ℕ → List (List ℕ) → Value → Result (List Write) LoadReason
writing store writes cube elements value = with_cell store writes value (store.cell cube elements)

-- the writes with a 0 in each of these cells in turn, or the limit that one of them passes
abbrev pub with_zeros : Store → List Write → List ℕ → Result (List Write) LoadReason
with_zeros store writes [] = Ok writes
with_zeros store writes (cell ∷ cells) =
    unless_refused (store.full (writes ++ (cell, pos 0) ∷ []))
    (with_zeros store (writes ++ (cell, pos 0) ∷ []) cells)

abbrev pub zeroed_at : Store → List Write → Option ℕ → Result (List Write) LoadReason
zeroed_at store writes (Some cell) = with_zeros store writes (store.cleared writes cell)
zeroed_at store writes None = Err UnknownName

-- the writes with those that zero out a cell: a 0 in each open leaf cell that is stored at it or counts in it
abbrev pub zeroing : Store → List Write → List ℕ → List (List ℕ) → Result (List Write) LoadReason
zeroing store writes cube elements = zeroed_at store writes (store.cell cube elements)

-- why a write is refused, if it is
abbrev pub refusal : Result (List Write) LoadReason → Option LoadReason
refusal (Ok writes) = None
refusal (Err reason) = Some reason

-- the writes after one that is refused are those before it
abbrev pub writes_after : List Write → Result (List Write) LoadReason → List Write
writes_after before (Ok writes) = writes
writes_after before (Err reason) = before

abbrev pub is_open_cell : Store → Option ℕ → Bool
is_open_cell store (Some cell) = is_none (store.closed cell)
is_open_cell store None = false

-- whether a number could be written into a cell as far as the cell goes: it is there, a leaf, and open for input
abbrev pub is_updateable : Store → List ℕ → List (List ℕ) → Bool
is_updateable store cube elements = is_open_cell store (store.cell cube elements)
