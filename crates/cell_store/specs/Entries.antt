-- Stored cells with their numbers, as a list.
use Rattle.std.specs.Prelude.{◌≢◌, ℕ, ◌==◌, nat_lt, nat_le, ℤ, pos, Option, if◌then◌else◌}
use Rattle.std.specs.Prelude.{List, [], ◌∷◌, ◌++◌, map, filter, find, fold, All}
use Rattle.std.specs.Ordering.{int_eq}
use Rattle.std.specs.List.Sorted.{IsStrictlyIncreasing}
use Rattle.cell_store.specs.declared.entry.Entry.{Entry}

-- the cells of the entries
abbrev pub cells_of : List Entry → List ℕ
cells_of entries = map (λ entry. entry.cell) entries

-- the entries of a store: by cell, each cell once, and none with the number 0
pub record IsStore (entries : List Entry) : Type 0 where
  pub rising : IsStrictlyIncreasing (cells_of entries)
  pub no_zeros : All (λ entry. entry.number ≢ pos 0) entries

-- the number of a cell, which is 0 where no entry has the cell
abbrev pub number_at : List Entry → ℕ → ℤ
number_at [] cell = pos 0
number_at (entry ∷ entries) cell = if entry.cell == cell then entry.number else number_at entries cell

-- the first entry at or above the cell: as the cells rise, the one of the least cell
abbrev pub entry_from : List Entry → ℕ → Option Entry
entry_from entries cell = find (λ entry. nat_le cell entry.cell) entries

-- the entries of the cells below this one, and of those above it
abbrev pub below : List Entry → ℕ → List Entry
below entries cell = filter (λ entry. nat_lt entry.cell cell) entries

abbrev pub above : List Entry → ℕ → List Entry
above entries cell = filter (λ entry. nat_lt cell entry.cell) entries

-- the entry of a cell that holds this number: none for 0
abbrev pub kept_of : ℕ → ℤ → List Entry
kept_of cell number = if int_eq number (pos 0) then [] else record { cell = cell; number = number } ∷ []

-- the entries with this number as the cell's: a 0 takes the cell out
abbrev pub with_write : List Entry → ℕ → ℤ → List Entry
with_write entries cell number = below entries cell ++ (kept_of cell number ++ above entries cell)

-- the entries after these writes, one after another
abbrev pub after_writes : List Entry → List (ℕ × ℤ) → List Entry
after_writes entries writes = fold (λ before write. with_write before write.0 write.1) entries writes
