use Rattle.std.proofs.Common.{take, map}
use Rattle.cell_versions.specs.Inside.Changes.{IsChangeBy}
use Rattle.cell_versions.proofs.changes.change_by.Given as goal

-- the writes so far have changed these cells
abbrev pub invariant-loop-write : goal.invariant-loop-write
invariant-loop-write l = IsChangeBy l.before l.after (map (λ write. write.0) (take l.write-index l.writes)) l.went.items l.came.items
