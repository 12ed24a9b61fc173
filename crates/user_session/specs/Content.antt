-- What commands act on: a model, and the numbers that are stored in its cells.
use Rattle.std.specs.Prelude.{ℕ, ℤ, List, []}
use Rattle.cell_reader.specs.declared.snapshot.Snapshot.{Snapshot}
use Rattle.cell_reader.specs.Snapshots.{version_of}
use Rattle.cell_store.specs.Entries.{after_writes}
use Rattle.rule_model.specs.BoundModel.{BoundModel}
use Rattle.user_session.specs.declared.content.Content.{Content}

-- what a snapshot means: its model and what is stored, and not its number
abbrev pub content_of : Snapshot → Content
content_of snapshot = record { model = (version_of snapshot).model; stored = (version_of snapshot).stored }

-- before the first command nothing is stored
abbrev pub opening : BoundModel → Content
opening model = record { model = model; stored = [] }

-- the content after these writes; a 0 takes its cell out of the store
abbrev pub after : Content → List (ℕ × ℤ) → Content
after content writes = record { model = content.model; stored = after_writes content.stored writes }
