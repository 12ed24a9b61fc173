use Rattle.std.proofs.Common.{◌≡◌, ◌+ℤ◌, ◌*ℤ◌, ℕ, take, length}
use Rattle.dim_weights.specs.Inside.Sums.{sum_at}
use Rattle.dim_weights.specs.Table.{share}
use Rattle.dim_weights.proofs.rows.add_row.Given as goal

abbrev pub invariant-loop-leaf : goal.invariant-loop-leaf
invariant-loop-leaf l = record {
  whole : length l.sums ≡ length l.initial.sums;
  added : (k : ℕ) → sum_at l.sums k ≡ sum_at l.initial.sums k +ℤ (l.weight *ℤ share (take l.leaf-index l.row) k);
}
