-- What a reader knows of the values that are kept, and what a call tells of it.
use Rattle.std.specs.Prelude.{◌≡◌, ◌≢◌, ℕ, ◌+◌, ◌^◌, ◌<◌, ◌≤◌, Bool, true, false, ⊤}
use Rattle.cube_fixed.specs.declared.value.Value.{Value}
use Rattle.memo_cells.specs.declared.answers.Look.{Look}
use Rattle.memo_cells.specs.declared.answers.Look.TheVariants as look
use Rattle.memo_cells.specs.declared.answers.Kept.{Kept}
use Rattle.memo_cells.specs.declared.answers.Kept.TheVariants as kept

-- what is known: which cells have their value there; of a cell and another one, whether the slot of the cell is for
-- that other one; and how often a word of a cell's slot was found empty
pub record Knowledge : Type 0 where
  pub knows : ℕ → Bool
  pub names : ℕ → ℕ → Bool
  pub zeros : ℕ → ℕ

-- the cell is known
abbrev pub Knows : Knowledge → ℕ → Type 0
Knows known cell = known.knows cell ≡ true

-- the slot of the cell is known to be for that other cell
abbrev pub Names : Knowledge → ℕ → ℕ → Type 0
Names known cell other = known.names cell other ≡ true

-- the slot of the cell is known to be for another cell
abbrev pub NamesOther : Knowledge → ℕ → Type 0
NamesOther known cell = (other : ℕ) × Names known cell other

-- nothing that was known is lost
pub record Grew (before after : Knowledge) : Type 0 where
  pub knows : (cell : ℕ) → Knows before cell → Knows after cell
  pub names : (cell other : ℕ) → Names before cell other → Names after cell other
  pub zeros : (cell : ℕ) → before.zeros cell ≤ after.zeros cell

-- a value that a look answers is the cell's
abbrev pub IsRight : (ℕ → Value) → ℕ → Look → Type 0
IsRight values cell (look.Value value) = value ≡ values cell
IsRight values cell look.Empty = ⊤
IsRight values cell (look.Other other) = ⊤

-- after a value the cell is known; Empty comes only where a word was found empty once more; after Other the slot is
-- known to be for that cell, another one
abbrev pub LooksAt : Knowledge → Knowledge → ℕ → Look → Type 0
LooksAt before after cell (look.Value value) = Knows after cell
LooksAt before after cell look.Empty = before.zeros cell < after.zeros cell
LooksAt before after cell (look.Other other) = (other ≢ cell) × Names after cell other

-- whether a look answers a value
abbrev pub is_value : Look → Bool
is_value (look.Value value) = true
is_value look.Empty = false
is_value (look.Other other) = false

-- once the value is kept the cell is known; else the slot is known to be for that cell, another one
abbrev pub KeepsAt : Knowledge → ℕ → Kept → Type 0
KeepsAt after cell kept.Here = Knows after cell
KeepsAt after cell (kept.Other other) = (other ≢ cell) × Names after cell other

-- the number of a cell, which is below the greatest u64: so is that of each cell of a model, whose count is one
abbrev pub IsNumber : ℕ → Type 0
IsNumber cell = cell + 1 < 2 ^ 64
