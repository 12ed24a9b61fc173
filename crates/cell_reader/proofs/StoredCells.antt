-- The stored cells of a cell are leaf cells.
use Rattle.std.proofs.Common.{◌≡◌, ℕ, ℤ, true, List, [], All}
use Rattle.std.proofs.lemmas.List.Elements.{All-filter, All-map}
use Rattle.cell_store.specs.Entries.{cells_of}
use Rattle.cell_store.specs.declared.entry.Entry.{Entry}
use Rattle.cube_space.specs.Cells.{IsCell, is_leaf_cell}
use Rattle.cube_space.specs.Layout.{Layout}
use Rattle.model_laws.proofs.Below.{among, leaf_cells-are}
use Rattle.rule_model.specs.Weights.{leaf_cells, leaves_below, weight}
use Rattle.sparse_sum.specs.Live.{is_live, live_below}
use Rattle.cell_reader.specs.StoredBelow.{stored_below}

abbrev pub IsLeaf : Layout → ℕ → Type 0
IsLeaf space cell = IsCell space cell × (is_leaf_cell space cell ≡ true)

pub stored-leaves : (space : Layout) (stored : List Entry) (cell : ℕ) → All (IsLeaf space) (stored_below space stored cell)
stored-leaves space stored cell =
    All-map (IsLeaf space) (λ (pair : ℕ × ℤ). pair.0) (live_below space (cells_of stored) [] cell)
    (All-filter (λ (pair : ℕ × ℤ). is_live (cells_of stored) [] pair.0) (λ (pair : ℕ × ℤ). IsLeaf space pair.0) (leaves_below space cell)
    (among (weight space cell) (λ pair. IsLeaf space pair.0) (leaf_cells space) (λ k d less on. leaf_cells-are space k d less)))
