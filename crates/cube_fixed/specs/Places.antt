-- Decimals: cutting them off, and rounding to so many of them.
use Rattle.std.specs.Prelude.{ℕ, suc, ◌+◌, ◌-◌, ◌*◌, ◌/◌, ◌^◌, min, ℤ, pos, negsuc, ◌*ℤ◌, unsigned_abs}
use Rattle.std.specs.Int.{int_div_euclid, int_signum}
use Rattle.cube_fixed.specs.declared.value.Value.{Value}
use Rattle.cube_fixed.specs.declared.value.Value.TheVariants.{Num, Over}
use Rattle.cube_fixed.specs.Range.{unit}
use Rattle.cube_fixed.specs.Rounding.{nearest_ratio}
use Rattle.cube_fixed.specs.Arithmetic.{fit}

-- TRUNC(a): the whole units of a, with its sign
unfoldable pub truncated : Value → Value
truncated (Num a) = fit (int_signum a *ℤ pos (unsigned_abs a / unit * unit))
truncated Over = Over

-- the greatest whole number that is not above the value, as a count of decimals; a negative one counts places before
-- the point. Numbers have six decimals, and no number reaches the fourteenth place before the point
abbrev pub whole_part : ℤ → ℤ
whole_part n = int_div_euclid n (pos unit)

-- the power of ten, in millionths, that so many decimals end with
abbrev pub power_of : ℤ → ℕ
power_of (pos n) = 6 - n
power_of (negsuc n) = 6 + min (suc n) 14

-- the nearest multiple of this power of ten, in millionths, halves away from zero
abbrev pub rounded_at : ℕ → Value → Value
rounded_at power (Num a) = fit (nearest_ratio a (pos (10 ^ power)) *ℤ pos (10 ^ power))
rounded_at power Over = Over

-- ROUNDP(a, n): a to n decimals, halves away from zero. A negative n rounds places before the point. The decimals of n
-- don't count
unfoldable pub rounded_to : Value → Value → Value
rounded_to a (Num n) = rounded_at (power_of (whole_part n)) a
rounded_to a Over = Over

-- how many decimals are written where n are asked for: its whole part, at least none and at most six
abbrev pub decimals_of : ℤ → ℕ
decimals_of (pos n) = min n 6
decimals_of (negsuc n) = 0

abbrev pub decimals_for : Value → ℕ
decimals_for (Num n) = decimals_of (whole_part n)
decimals_for Over = 6
