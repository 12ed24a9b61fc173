-- Which cells some writes have added to what is stored, where they took none out that feeds others.
use Rattle.std.specs.Prelude.{ℕ, ◌⊎◌, ⊤, List, All, Contains, Option, Some, None}
use Rattle.cell_store.specs.Entries.{cells_of}
use Rattle.cell_store.specs.declared.entry.Entry.{Entry}
use Rattle.rule_laws.specs.Feeding.{Feeds}
use Rattle.rule_model.specs.BoundModel.{BoundModel}
use Rattle.rule_model.specs.System.{system_of}

-- a cell that feeds no other
abbrev pub FeedsNone : BoundModel → ℕ → Type 0
FeedsNone model cell = (fed : ℕ) → Feeds (system_of model) cell fed → ⊥

-- so far: what was added is stored now and wasn't before, and each cell that is stored before is stored now or feeds no
-- other, each that is stored now was stored before or is added
pub record IsAddedBy (model : BoundModel) (before after : List Entry) (cells added : List ℕ) : Type 0 where
  pub now : All (Contains (cells_of after)) added
  pub new : All (λ cell. Contains (cells_of before) cell → ⊥) added
  pub kept : All (λ cell. Contains (cells_of before) cell → Contains (cells_of after) cell ⊎ FeedsNone model cell) cells
  pub told : All (λ cell. Contains (cells_of after) cell → Contains (cells_of before) cell ⊎ Contains added cell) cells

-- where an answer is there, it is what these cells have added
abbrev pub IsAddedIf : BoundModel → List Entry → List Entry → List ℕ → Option (List ℕ) → Type 0
IsAddedIf model before after cells None = ⊤
IsAddedIf model before after cells (Some added) = IsAddedBy model before after cells added

-- so far: which of these cells went, stored before and not now, and which came
pub record IsChangeBy (before after : List Entry) (cells went came : List ℕ) : Type 0 where
  pub gone : All (λ cell. Contains (cells_of before) cell → Contains (cells_of after) cell ⊎ Contains went cell) cells
  pub new : All (λ cell. Contains (cells_of after) cell → Contains (cells_of before) cell ⊎ Contains came cell) cells
  pub stored : (cell : ℕ) → Contains came cell → Contains (cells_of after) cell
