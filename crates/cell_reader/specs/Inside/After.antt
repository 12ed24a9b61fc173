-- What a load's work keeps of its versions.
use Rattle.std.specs.Prelude.{◌≡◌, ◌≤◌, ◌+◌, ℕ, ℤ, List, length, drop, take, Option, Some, IfSome}
use Rattle.std.specs.Arc.{arc_value}
use Rattle.std.specs.BTreeMap.{BTreeMap}
use Rattle.std.specs.declared.alloc.Global.{Global}
use Rattle.std.specs.declared.sync.Arc.{Arc}
use Rattle.cell_store.specs.Entries.{after_writes}
use Rattle.cell_store.specs.StoreLimit.{most_cells}
use Rattle.cell_store.specs.declared.entry.Entry.{Entry}
use Rattle.cell_values.specs.Reading.{AreValuesOn}
use Rattle.cell_versions.specs.Versions.{AreLeafWrites, NumberedVersion}
use Rattle.cell_writes.specs.Writes.{last_writes}
use Rattle.feed_map.specs.FedCells.{most_fed}
use Rattle.memo_cells.specs.declared.shared.SharedMemo.{SharedMemo}
use Rattle.memo_cells.specs.Shared.{version_kept}
use Rattle.memo_cells.specs.Values.{cell_value}
use Rattle.rule_model.specs.BoundModel.{BoundModel}
use Rattle.cell_reader.specs.FedCount.{fed_count}
use Rattle.cell_reader.specs.declared.mark.Mark.{Mark}
use Rattle.cell_reader.specs.declared.room.Room.{Room}

-- what these writes have made of the version that the work began with
pub record IsAfter (opening : NumberedVersion) (writes : List (ℕ × ℤ)) (model : BoundModel) (stored : List Entry)
    : Type 0 where
  pub same : model ≡ opening.model
  pub after : stored ≡ after_writes opening.stored writes
  pub leaves : AreLeafWrites opening.model.space writes

-- writes that may wait: neither limit is passed with them and so many cells more
pub record MayWait (version : NumberedVersion) (writes : List (ℕ × ℤ)) (room : Room) : Type 0 where
  pub few_stored : length (after_writes version.stored writes) + room.stored ≤ most_cells
  pub few_fed : fed_count version.model (after_writes version.stored writes) + room.fed ≤ most_fed

-- a version has the first so many of these writes
pub record HasFirst (opening : NumberedVersion) (writes : List (ℕ × ℤ)) (version : NumberedVersion) (made : ℕ)
    : Type 0 where
  pub made_first : made ≤ length writes
  pub after : IsAfter opening (take made writes) version.model version.stored

-- a mark has such a version
abbrev pub IsMark : NumberedVersion → List (ℕ × ℤ) → Mark → Type 0
IsMark opening writes mark = HasFirst opening writes (arc_value mark.version) mark.made

-- the latest version has the first so many writes, and the others wait
pub record IsAhead (opening latest : Arc NumberedVersion Global) (writes : List (ℕ × ℤ)) (made : ℕ)
    (room : Room) : Type 0 where
  pub first : HasFirst (arc_value opening) writes (arc_value latest) made
  pub leaves : AreLeafWrites (arc_value opening).model.space writes
  pub waiting : MayWait (arc_value latest) (drop made writes) room

-- the last numbers of these writes, by cell, where they are kept
abbrev pub AreLast : List (ℕ × ℤ) → Option (BTreeMap ℕ ℤ) → Type 0
AreLast writes numbers = IfSome numbers (λ kept. kept.entries ≡ last_writes writes)

-- a memory has the values on this version
abbrev pub KeepsValues : NumberedVersion → SharedMemo → Type 0
KeepsValues version memo = AreValuesOn version (cell_value (version_kept memo))

-- so has a memory, where there is one
abbrev pub HasValues : NumberedVersion → Option SharedMemo → Type 0
HasValues version memo = (kept : SharedMemo) → memo ≡ Some kept → KeepsValues version kept
