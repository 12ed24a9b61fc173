use Rattle.std.proofs.Common.{take, pos, false}
use Rattle.dim_weights.specs.Inside.Sums.{ArePut}
use Rattle.dim_weights.proofs.sums.clear.Given as goal

abbrev pub invariant-loop-leaf : goal.invariant-loop-leaf
invariant-loop-leaf l = record {
  sums : ArePut (take l.leaf-index l.leaves) (pos 0) l.initial.sums.items l.sums.items;
  marked : ArePut (take l.leaf-index l.leaves) false l.initial.marked.items l.marked.items;
}
