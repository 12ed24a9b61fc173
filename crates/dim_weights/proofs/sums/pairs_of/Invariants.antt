use Rattle.std.proofs.Common.{◌≡◌, ◌≤◌, take}
use Rattle.dim_weights.specs.Inside.Sums.{sum_at}
use Rattle.dim_weights.specs.Table.{nonzero_among, greatest_in}
use Rattle.dim_weights.proofs.sums.pairs_of.Given as goal

abbrev pub invariant-loop-leaf : goal.invariant-loop-leaf
invariant-loop-leaf l = record {
  pairs : l.pairs.items ≡ nonzero_among (sum_at l.sums) (take l.leaf-index l.leaves);
  small : greatest_in l.pairs.items ≤ 1000000000;
}
