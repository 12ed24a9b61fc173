-- The stored leaf cells of a cell.
use Rattle.std.specs.Prelude.{ℕ, List, [], map}
use Rattle.cell_store.specs.Entries.{cells_of}
use Rattle.cell_store.specs.declared.entry.Entry.{Entry}
use Rattle.cube_space.specs.Layout.{Layout}
use Rattle.sparse_sum.specs.Live.{live_below}

-- the stored leaf cells that count in a cell, with whatever coefficient but 0, rising; a leaf cell counts in itself
abbrev pub stored_below : Layout → List Entry → ℕ → List ℕ
stored_below space stored cell = map (λ pair. pair.0) (live_below space (cells_of stored) [] cell)
