-- What 0 gives in the operations that take it alone.
use Rattle.std.specs.Prelude.{◌≡◌}
use Rattle.cube_fixed.specs.Arithmetic.{zero_value, sum_of, difference_of, opposite_of, greater_of, lesser_of, rounded}
use Rattle.cube_fixed.specs.Arithmetic.{floor_of, size_of, sign_of}
use Rattle.cube_fixed.specs.Places.{truncated}

-- 0 + 0, 0 - 0, MAX and MIN of 0 and 0
pub record PairOfZerosGivesZero : Type 0 where
  pub sums : sum_of zero_value zero_value ≡ zero_value
  pub differences : difference_of zero_value zero_value ≡ zero_value
  pub greater : greater_of zero_value zero_value ≡ zero_value
  pub lesser : lesser_of zero_value zero_value ≡ zero_value

-- ROUND, INT, TRUNC, ABS and SIGN of 0, and -0
pub record ZeroGivesZero : Type 0 where
  pub nearest_unit : rounded zero_value ≡ zero_value
  pub floor : floor_of zero_value ≡ zero_value
  pub cut : truncated zero_value ≡ zero_value
  pub size : size_of zero_value ≡ zero_value
  pub sign : sign_of zero_value ≡ zero_value
  pub opposite : opposite_of zero_value ≡ zero_value
