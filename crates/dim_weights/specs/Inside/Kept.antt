-- What the fields of a table of coefficients keep.
use Rattle.std.specs.Prelude.{◌≡◌, ℕ, ◌<◌, ◌≤◌, ℤ, pos, List, length, All}
use Rattle.dim_weights.specs.Table.{leaves_in, greatest_of, IsRising}
use Rattle.dim_weights.specs.Coefficients.{most_coefficient}

-- the leaves of each element rise and are elements, and the greatest size of a coefficient is known, and at most a
-- billion
pub record IsKept (weights : List (List (ℕ × ℤ))) (greatest : ℤ) : Type 0 where
  pub rising : (element : ℕ) → IsRising (leaves_in weights element)
  pub leaves : (element : ℕ) → All (λ pair. pair.0 < length weights) (leaves_in weights element)
  pub known : greatest ≡ pos (greatest_of weights)
  pub within : greatest_of weights ≤ most_coefficient
