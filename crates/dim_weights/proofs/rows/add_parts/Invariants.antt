use Rattle.std.proofs.Common.{◌≡◌, ℕ, take, length}
use Rattle.dim_weights.specs.Coefficients.{weighted_sum}
use Rattle.dim_weights.specs.Inside.Sums.{sum_at}
use Rattle.dim_weights.specs.Table.{share, leaves_in}
use Rattle.dim_weights.proofs.rows.add_parts.Given as goal

abbrev pub invariant-loop-part : goal.invariant-loop-part
invariant-loop-part l = record {
  whole : length l.sums ≡ length l.initial.sums;
  added : (leaf : ℕ) → sum_at l.sums leaf ≡ weighted_sum (λ part. share (leaves_in l.rows part) leaf) (take l.part-index l.parts);
}
