use Rattle.std.proofs.Common.{length}
use Rattle.sparse_sum.proofs.candidates.+first_leaf.Given as goal

abbrev pub decreases-first_leaf : goal.decreases-first_leaf
decreases-first_leaf l = length l.dims.now
