use Rattle.std.proofs.Common.{take, map}
use Rattle.cell_versions.specs.Inside.Changes.{IsAddedBy}
use Rattle.cell_versions.proofs.changes.added_by.Given as goal

-- the writes so far have added these cells
abbrev pub invariant-loop-write : goal.invariant-loop-write
invariant-loop-write l = IsAddedBy l.model l.before l.after (map (λ write. write.0) (take l.write-index l.writes)) l.added.items
