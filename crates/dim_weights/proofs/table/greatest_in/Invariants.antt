use Rattle.std.proofs.Common.{◌≡◌, take}
use Rattle.dim_weights.specs.Table.{greatest_in}
use Rattle.dim_weights.proofs.table.greatest_in.Given as goal

abbrev pub invariant-loop-pair : goal.invariant-loop-pair
invariant-loop-pair l = l.greatest ≡ greatest_in (take l.pair-index l.pairs)
