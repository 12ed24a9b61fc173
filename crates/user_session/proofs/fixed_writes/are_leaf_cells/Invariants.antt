use Rattle.std.proofs.Common.{◌≡◌, true, take}
use Rattle.user_session.specs.Planning.{all_leaf_cells}
use Rattle.user_session.proofs.fixed_writes.are_leaf_cells.Given as goal

-- the writes so far are of leaf cells
abbrev pub invariant-loop-write : goal.invariant-loop-write
invariant-loop-write l = all_leaf_cells l.space (take l.write-index l.writes) ≡ true
