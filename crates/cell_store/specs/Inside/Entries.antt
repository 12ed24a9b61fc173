-- Entries as what pages hold.
use Rattle.std.specs.Prelude.{ℕ, ℤ, Bool, pos}
use Rattle.std.specs.Ordering.{int_eq}
use Rattle.cell_store.specs.declared.entry.Entry.{Entry}

-- the cell of an entry
abbrev pub cell_of : Entry → ℕ
cell_of entry = entry.cell

-- whether a written entry takes its cell out
abbrev pub is_zero : Entry → Bool
is_zero entry = int_eq entry.number (pos 0)

-- a write as an entry
abbrev pub entry_of : ℕ × ℤ → Entry
entry_of write = record { cell = write.0; number = write.1 }
