-- The tree of a store.
use Rattle.std.specs.Prelude.{◌≡◌, ℕ, ◌≤◌, length}
use Rattle.cell_store.specs.declared.entry.Entry.{Entry}
use Rattle.cell_store.specs.Entries.{IsStore}
use Rattle.cell_store.specs.StoreLimit.{most_cells}
use Rattle.cell_store.specs.Inside.Entries.{cell_of}
use Rattle.cell_store.specs.Inside.Trees.{Tree, all_entries, IsTree}

-- the tree holds a store's entries, of which there are `len`
pub record IsKept (tree : Tree Entry) (len : ℕ) : Type 0 where
  pub sized : IsTree cell_of tree
  pub entries : IsStore (all_entries tree)
  pub count : len ≡ length (all_entries tree)
  pub within : len ≤ most_cells
