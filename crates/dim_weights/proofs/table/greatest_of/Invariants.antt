use Rattle.std.proofs.Common.{◌≡◌, take}
use Rattle.dim_weights.specs.Table.{greatest_of}
use Rattle.dim_weights.proofs.table.greatest_of.Given as goal

abbrev pub invariant-loop-row : goal.invariant-loop-row
invariant-loop-row l = l.greatest ≡ greatest_of (take l.row-index l.rows)
