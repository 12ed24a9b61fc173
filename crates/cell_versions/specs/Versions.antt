-- The versions of the numbers of a model.
use Rattle.std.specs.Prelude.{◌≡◌, ℕ, ◌+◌, ◌-◌, ◌^◌, min, ℤ, true, List, All}
use Rattle.cell_store.specs.declared.entry.Entry.{Entry}
use Rattle.cube_space.specs.Cells.{IsCell, is_leaf_cell}
use Rattle.cube_space.specs.Layout.{Layout}
use Rattle.feed_map.specs.FedCells.{AreFedCells}
use Rattle.rule_model.specs.BoundModel.{BoundModel}
use Rattle.stored_laws.specs.Stored.{AreLeafEntries}

-- a version: its number, its model, the stored cells, and the cells that these feed
pub record NumberedVersion : Type 0 where
  pub number : ℕ
  pub model : BoundModel
  pub stored : List Entry
  pub fed : List ℕ

-- leaf cells alone are stored, and these are the fed cells
pub record IsVersion (model : BoundModel) (stored : List Entry) (cells : List ℕ) : Type 0 where
  pub leaves : AreLeafEntries model.space stored
  pub fed : AreFedCells model stored cells

-- each write is of a leaf cell
abbrev pub AreLeafWrites : Layout → List (ℕ × ℤ) → Type 0
AreLeafWrites space writes = All (λ write. IsCell space write.0 × (is_leaf_cell space write.0 ≡ true)) writes

-- the number of the next version; at the greatest u64 it stays
abbrev pub number_after : ℕ → ℕ
number_after number = min (number + 1) (2 ^ 64 - 1)
