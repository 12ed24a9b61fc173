-- What clauses say of a snapshot: the version that it is of, and what its reader knows of the values that are kept.
use Rattle.std.specs.Prelude.{ℕ, Bool}
use Rattle.std.specs.Arc.{arc_value}
use Rattle.memo_cells.specs.declared.memo.Memo.{Memo}
use Rattle.memo_cells.specs.Knowledge.{Knowledge}
use Rattle.memo_cells.specs.Shared.{holds, known_to, memo_of}
use Rattle.cell_versions.specs.Versions.{NumberedVersion}
use Rattle.cell_reader.specs.declared.snapshot.Snapshot.{Snapshot}

-- the version that a snapshot is of
abbrev pub version_of : Snapshot → NumberedVersion
version_of snapshot = arc_value snapshot.version

-- the memory that its readers share, and what this one knows of it
abbrev pub memory_of : Snapshot → Memo
memory_of snapshot = memo_of snapshot.memo

abbrev pub known_in : Snapshot → Knowledge
known_in snapshot = known_to snapshot.memo

-- the cells whose values this one holds for itself
abbrev pub held_in : Snapshot → ℕ → Bool
held_in snapshot = holds snapshot.memo
