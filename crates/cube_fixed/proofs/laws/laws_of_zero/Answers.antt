use Rattle.cube_fixed.proofs.Zero.{product_of-zero_left, product_of-zero_right, quotient_of-zero_left, remainder_of-zero_left, rounded_to-zero, truncated-zero, safe_quotient_of-zero_left, remainder_of-zero_left, rounded_to-zero, truncated-zero, safe_quotient_of-zero_right, sum_of-zeros, difference_of-zeros, greater_of-zeros, lesser_of-zeros, rounded-zero, floor_of-zero, size_of-zero, sign_of-zero}
use Rattle.cube_fixed.proofs.laws.laws_of_zero.Goals as goal

pub returns-clause-zero_times : goal.returns-clause-zero_times
returns-clause-zero_times c = product_of-zero_left

pub returns-clause-times_zero : goal.returns-clause-times_zero
returns-clause-times_zero c = product_of-zero_right

pub returns-clause-zero_divided : goal.returns-clause-zero_divided
returns-clause-zero_divided c = quotient_of-zero_left

pub returns-clause-zero_safely_divided : goal.returns-clause-zero_safely_divided
returns-clause-zero_safely_divided c = safe_quotient_of-zero_left

pub returns-clause-safely_divided_by_zero : goal.returns-clause-safely_divided_by_zero
returns-clause-safely_divided_by_zero c = safe_quotient_of-zero_right

pub returns-clause-zero_remainder : goal.returns-clause-zero_remainder
returns-clause-zero_remainder c = remainder_of-zero_left

pub returns-clause-zero_rounded : goal.returns-clause-zero_rounded
returns-clause-zero_rounded c = rounded_to-zero

pub returns-clause-of_two_zeros : goal.returns-clause-of_two_zeros
returns-clause-of_two_zeros c =
    record { sums = sum_of-zeros; differences = difference_of-zeros; greater = greater_of-zeros; lesser = lesser_of-zeros }

pub returns-clause-of_zero : goal.returns-clause-of_zero
returns-clause-of_zero c =
    record { nearest_unit = rounded-zero; floor = floor_of-zero; cut = truncated-zero; size = size_of-zero; sign = sign_of-zero; opposite = difference_of-zeros }
