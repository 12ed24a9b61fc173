use Rattle.std.proofs.Common.{◌≡◌, take, false}
use Rattle.std.specs.List.{list_any}
use Rattle.dim_weights.specs.Table.{is_nonzero, leaves_in, share}
use Rattle.cell_spread.proofs.ruled.counts_any.Given as goal

-- none of the leaves so far counts
abbrev pub invariant-loop-leaf : goal.invariant-loop-leaf
invariant-loop-leaf l = record {
  none : list_any (λ leaf. is_nonzero (share (leaves_in l.weights l.element) leaf)) (take l.leaf-index l.listed) ≡ false;
}
