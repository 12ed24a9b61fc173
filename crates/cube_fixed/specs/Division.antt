-- Division, by zero too.
use Rattle.std.specs.Prelude.{ℤ, pos, negsuc, suc, neg_ℤ, ◌-ℤ◌, ◌*ℤ◌, if◌then◌else◌}
use Rattle.std.specs.Int.{int_div_euclid}
use Rattle.cube_fixed.specs.declared.value.Value.{Value}
use Rattle.cube_fixed.specs.declared.value.Value.TheVariants.{Num, Over}
use Rattle.cube_fixed.specs.Range.{unit}
use Rattle.cube_fixed.specs.Rounding.{nearest_ratio}
use Rattle.cube_fixed.specs.Arithmetic.{zero_value, fit, is_zero}

-- a / b, to the nearest millionth; by 0 it is Over
unfoldable pub quotient_of : Value → Value → Value
quotient_of (Num a) (Num b) =
    if is_zero (Num b) then Over else fit (nearest_ratio (a *ℤ pos unit) b)
quotient_of (Num _) Over = Over
quotient_of Over _ = Over

-- a \ b: 0 where a or b is 0, whatever the other one is, and else a / b
unfoldable pub safe_quotient_of : Value → Value → Value
safe_quotient_of a b =
    if is_zero a then zero_value else if is_zero b then zero_value else quotient_of a b

-- the greatest whole number that is not above a / b
abbrev pub floor_ratio : ℤ → ℤ → ℤ
floor_ratio a (pos b) = int_div_euclid a (pos b)
floor_ratio a (negsuc b) = int_div_euclid (neg_ℤ a) (pos (suc b))

-- MOD(a, b): a less b times the greatest whole number that is not above a / b; by 0 it is Over
unfoldable pub remainder_of : Value → Value → Value
remainder_of (Num a) (Num b) = if is_zero (Num b) then Over else fit (a -ℤ b *ℤ floor_ratio a b)
remainder_of (Num _) Over = Over
remainder_of Over _ = Over
