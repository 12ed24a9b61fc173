-- What a reader gives on a version of the numbers, and when it counts no step.
use Rattle.std.specs.Prelude.{◌≡◌, ◌<◌, ◌⊎◌, ℕ, false, None, IsSome, All}
use Rattle.cell_store.specs.Entries.{cells_of}
use Rattle.cell_versions.specs.Versions.{NumberedVersion}
use Rattle.cube_fixed.specs.declared.value.Value.{Value}
use Rattle.cube_space.specs.Cells.{is_leaf_cell}
use Rattle.memo_cells.specs.Knowledge.{Knowledge, Knows, NamesOther}
use Rattle.rule_laws.specs.RuleSystem.{dense_value}
use Rattle.rule_model.specs.Governing.{governing_from}
use Rattle.rule_model.specs.System.{system_of}
use Rattle.sparse_sum.specs.Live.{live_below}
use Rattle.stored_laws.specs.Stored.{stored_in}

-- the value of a cell on a version: what plain rounds of evaluation over all cells give it there
unfoldable pub value_on : NumberedVersion → ℕ → Value
value_on version = dense_value (system_of version.model) (stored_in version.stored)

-- these values are those on the version
abbrev pub AreValuesOn : NumberedVersion → (ℕ → Value) → Type 0
AreValuesOn version values = values ≡ value_on version

-- no statement governs the cell
abbrev pub IsUngoverned : NumberedVersion → ℕ → Type 0
IsUngoverned version cell = governing_from version.model cell 0 ≡ None

-- a governed or consolidated cell
abbrev pub IsWorkedOut : NumberedVersion → ℕ → Type 0
IsWorkedOut version cell =
    IsSome (governing_from version.model cell 0) ⊎ (is_leaf_cell version.model.space cell ≡ false)

-- an ungoverned consolidated cell, below which no stored or fed leaf cell is governed
pub record IsPlainTotal (version : NumberedVersion) (cell : ℕ) : Type 0 where
  pub consolidated : is_leaf_cell version.model.space cell ≡ false
  pub ungoverned : IsUngoverned version cell
  pub leaves : All (λ pair. IsUngoverned version pair.0)
      (live_below version.model.space (cells_of version.stored) version.fed cell)

-- the cell's value is kept, or its slot is known to be for another cell
abbrev pub IsKept : Knowledge → ℕ → Type 0
IsKept known cell = Knows known cell ⊎ NamesOther known cell

-- evaluations may be counted: a word of the cell's slot was found empty once more, or the slot is for another cell
abbrev pub MayCount : Knowledge → Knowledge → ℕ → Type 0
MayCount before after cell = (before.zeros cell < after.zeros cell) ⊎ NamesOther after cell
