use Rattle.std.proofs.Common.{◌≡◌, ◌<◌, ℕ, length, take, None}
use Rattle.dim_weights.specs.Refusal.{fault_at}
use Rattle.dim_weights.specs.Inside.Rows.{AreRowsOf}
use Rattle.dim_weights.specs.Inside.Sums.{AreZero}
use Rattle.dim_weights.proofs.weights.rows_of.Given as goal

abbrev pub invariant-loop-element : goal.invariant-loop-element
invariant-loop-element l = record {
  made : AreRowsOf l.dimension (take l.element-index l.by_level) l.table;
  whole : length l.sums ≡ length l.dimension.elements;
  zero : AreZero l.sums;
  free : (j : ℕ) → j < l.element-index → fault_at l.dimension l.by_level j ≡ None;
}
