-- The fed cells of a model over what is stored, as a list.
use Rattle.std.specs.Prelude.{ℕ, ◌==◌, ◌<◌, ◌≤◌, ◌↔◌, ◌⊎◌, not, List, length, filter, All, Contains}
use Rattle.std.specs.List.{list_any}
use Rattle.std.specs.List.Sorted.{IsStrictlyIncreasing}
use Rattle.cell_store.specs.declared.entry.Entry.{Entry}
use Rattle.cell_store.specs.Entries.{cells_of}
use Rattle.rule_laws.specs.Feeding.{IsFed, leaves_of}
use Rattle.rule_model.specs.BoundModel.{BoundModel}
use Rattle.rule_model.specs.System.{system_of}
use Rattle.stored_laws.specs.Stored.{stored_in}

-- these are the fed cells, each once and rising: the leaf cells of dense cubes, and the ends of the chains of feeds
-- that begin at a stored cell or at a leaf cell of a dense cube
pub record AreFedCells (model : BoundModel) (entries : List Entry) (cells : List ℕ) : Type 0 where
  pub rising : IsStrictlyIncreasing cells
  pub fed : (cell : ℕ) → Contains cells cell ↔ IsFed (system_of model) (stored_in entries) cell

-- each leaf cell of these totals is among the cells
abbrev pub HaveLeaves : BoundModel → List ℕ → List ℕ → Type 0
HaveLeaves model totals cells =
    (total cell : ℕ) → Contains totals total → Contains (leaves_of (system_of model) total) cell → Contains cells cell

-- what is fed over what is stored: these cells, and some totals whose leaf cells are all among them
pub record IsFeeding (model : BoundModel) (entries : List Entry) (cells totals : List ℕ) : Type 0 where
  pub fed : AreFedCells model entries cells
  pub opened : HaveLeaves model totals cells

-- the most fed cells of a version
abbrev pub most_fed : ℕ
most_fed = 4000000

-- no more cells are fed
abbrev pub HasFewFed : BoundModel → List Entry → Type 0
HasFewFed model entries = (cells : List ℕ) × AreFedCells model entries cells × (length cells ≤ most_fed)

-- more are: there is a rising list of more cells, each of which is fed
abbrev pub HasManyFed : BoundModel → List Entry → Type 0
HasManyFed model entries =
    (cells : List ℕ) × IsStrictlyIncreasing cells × (most_fed < length cells)
    × All (IsFed (system_of model) (stored_in entries)) cells

-- the entries of a store whose cells aren't among these
abbrev pub without : List Entry → List ℕ → List Entry
without entries cells = filter (λ entry. not (list_any (λ cell. cell == entry.cell) cells)) entries

-- these are the cells that went, stored before and not after, and those that came; others may be among those that went
pub record IsStoredChange (before after : List Entry) (went came : List ℕ) : Type 0 where
  pub gone : (cell : ℕ) → Contains (cells_of before) cell → Contains (cells_of after) cell ⊎ Contains went cell
  pub new : (cell : ℕ) → Contains (cells_of after) cell → Contains (cells_of before) cell ⊎ Contains came cell
  pub stored : (cell : ℕ) → Contains came cell → Contains (cells_of after) cell
