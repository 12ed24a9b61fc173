use Rattle.std.proofs.Common.{◌≡◌, ℕ, ℤ, ◌≤◌, ◌<◌, ◌*◌, All, length, take, unsigned_abs}
use Rattle.dim_weights.specs.Coefficients.{weighted_sum}
use Rattle.dim_weights.proofs.merged.merged.Given as goal

abbrev pub invariant-parts : goal.invariant-parts
invariant-parts l = record {
  sum : (f : ℕ → ℤ) → weighted_sum f l.made.items ≡ weighted_sum f (take l.part-index l.part-items);
  within : (n : ℕ) → All (λ part. part.0 < n) l.part-items → All (λ part. part.0 < n) l.made.items;
  small : All (λ part. unsigned_abs part.1 ≤ l.part-index * 1000000) l.made.items;
  few : length l.made.items ≤ l.part-index;
}
