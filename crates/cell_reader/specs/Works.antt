-- What clauses say of a load's work: the version that it began with, and the writes so far.
use Rattle.std.specs.Prelude.{ℕ, ℤ, List}
use Rattle.std.specs.Arc.{arc_value}
use Rattle.cell_store.specs.Entries.{after_writes}
use Rattle.cell_store.specs.declared.entry.Entry.{Entry}
use Rattle.cell_versions.specs.Versions.{NumberedVersion}
use Rattle.cell_reader.specs.declared.work.Work.{Work}

-- the version that the work began with
abbrev pub opening_of : Work → NumberedVersion
opening_of work = arc_value work.opening

-- the writes so far, in their order
abbrev pub writes_of : Work → List (ℕ × ℤ)
writes_of work = work.written.items

-- what is stored after them
abbrev pub stored_after : Work → List (ℕ × ℤ) → List Entry
stored_after work writes = after_writes (opening_of work).stored writes
