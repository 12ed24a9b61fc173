-- What each operation gives, over whole counts of millionths without bound. The range is tested once, last.
use Rattle.std.specs.Prelude.{ℤ, pos, ◌+ℤ◌, ◌-ℤ◌, ◌*ℤ◌, unsigned_abs, Bool, false, if◌then◌else◌}
use Rattle.std.specs.Int.{int_div_euclid, int_max, int_min, int_signum}
use Rattle.std.specs.Ordering.{int_cmp, int_eq}
use Rattle.std.specs.declared.cmp.Ordering.{Ordering}
use Rattle.std.specs.declared.cmp.Ordering.TheVariants.{Less, Equal, Greater}
use Rattle.cube_fixed.specs.declared.value.Value.{Value}
use Rattle.cube_fixed.specs.declared.value.Value.TheVariants.{Num, Over}
use Rattle.cube_fixed.specs.Range.{unit, is_in_range}
use Rattle.cube_fixed.specs.Rounding.{nearest_ratio}

-- the number 0
abbrev pub zero_value : Value
zero_value = Num (pos 0)

-- the number with this count of millionths, or Over outside the range
abbrev pub fit : ℤ → Value
fit z = if is_in_range z then Num z else Over

-- whether the value is the number 0
abbrev pub is_zero : Value → Bool
is_zero (Num z) = int_eq z (pos 0)
is_zero Over = false

-- a + b
unfoldable pub sum_of : Value → Value → Value
sum_of (Num a) (Num b) = fit (a +ℤ b)
sum_of (Num _) Over = Over
sum_of Over _ = Over

-- a - b
unfoldable pub difference_of : Value → Value → Value
difference_of (Num a) (Num b) = fit (a -ℤ b)
difference_of (Num _) Over = Over
difference_of Over _ = Over

-- -a, which is 0 - a
abbrev pub opposite_of : Value → Value
opposite_of a = difference_of zero_value a

-- a * b, to the nearest millionth; 0 times anything is 0
unfoldable pub product_of : Value → Value → Value
product_of (Num a) (Num b) = fit (nearest_ratio (a *ℤ b) (pos unit))
product_of (Num a) Over = if is_zero (Num a) then zero_value else Over
product_of Over b = if is_zero b then zero_value else Over

-- MAX(a, b) and MIN(a, b)
unfoldable pub greater_of : Value → Value → Value
greater_of (Num a) (Num b) = Num (int_max a b)
greater_of (Num _) Over = Over
greater_of Over _ = Over

unfoldable pub lesser_of : Value → Value → Value
lesser_of (Num a) (Num b) = Num (int_min a b)
lesser_of (Num _) Over = Over
lesser_of Over _ = Over

-- ROUND(a): the nearest whole unit, halves away from zero
unfoldable pub rounded : Value → Value
rounded (Num a) = fit (nearest_ratio a (pos unit) *ℤ pos unit)
rounded Over = Over

-- INT(a): the greatest whole unit that is not above a
unfoldable pub floor_of : Value → Value
floor_of (Num a) = fit (int_div_euclid a (pos unit) *ℤ pos unit)
floor_of Over = Over

-- ABS(a)
unfoldable pub size_of : Value → Value
size_of (Num a) = Num (pos (unsigned_abs a))
size_of Over = Over

-- SIGN(a): one unit with the sign of a, or 0
unfoldable pub sign_of : Value → Value
sign_of (Num a) = Num (int_signum a *ℤ pos unit)
sign_of Over = Over

-- how a stands to b: Over equals itself, and is greater than every number
unfoldable pub order_of : Value → Value → Ordering
order_of (Num a) (Num b) = int_cmp a b
order_of (Num _) Over = Less
order_of Over (Num _) = Greater
order_of Over Over = Equal
