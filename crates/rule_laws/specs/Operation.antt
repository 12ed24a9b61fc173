-- What operations, functions and comparisons give.
use Rattle.std.specs.Prelude.{Bool, not}
use Rattle.std.specs.Ordering.{is_lt, is_eq, is_gt}
use Rattle.cube_fixed.specs.declared.value.Value.{Value}
use Rattle.cube_fixed.specs.Arithmetic.{sum_of, difference_of, product_of, greater_of}
use Rattle.cube_fixed.specs.Division.{quotient_of, safe_quotient_of, remainder_of}
use Rattle.cube_fixed.specs.Places.{truncated, rounded_to}
use Rattle.cube_fixed.specs.Arithmetic.{lesser_of, opposite_of, size_of, sign_of, floor_of, rounded, order_of}
use Rattle.rule_laws.specs.declared.operation.Op.{Op}
use Rattle.rule_laws.specs.declared.operation.Op.TheVariants.{Add, Sub, Mul, DivSafe, Div, Max, Min, Mod, RoundTo}
use Rattle.rule_laws.specs.declared.operation.Fun.{Fun}
use Rattle.rule_laws.specs.declared.operation.Fun.TheVariants.{Minus, Abs, Sign, Int, Round, Trunc}
use Rattle.rule_laws.specs.declared.operation.Rel.{Rel}
use Rattle.rule_laws.specs.declared.operation.Rel.TheVariants.{Equal, Unequal, Less, Greater, AtMost, AtLeast}

-- what an operation gives
abbrev pub operation_of : Op → Value → Value → Value
operation_of Add a b = sum_of a b
operation_of Sub a b = difference_of a b
operation_of Mul a b = product_of a b
operation_of DivSafe a b = safe_quotient_of a b
operation_of Div a b = quotient_of a b
operation_of Max a b = greater_of a b
operation_of Min a b = lesser_of a b
operation_of Mod a b = remainder_of a b
operation_of RoundTo a b = rounded_to a b

-- what a function gives
abbrev pub function_of : Fun → Value → Value
function_of Minus a = opposite_of a
function_of Abs a = size_of a
function_of Sign a = sign_of a
function_of Int a = floor_of a
function_of Round a = rounded a
function_of Trunc a = truncated a

-- whether a comparison holds
abbrev pub comparison_of : Rel → Value → Value → Bool
comparison_of Equal a b = is_eq (order_of a b)
comparison_of Unequal a b = not (is_eq (order_of a b))
comparison_of Less a b = is_lt (order_of a b)
comparison_of Greater a b = is_gt (order_of a b)
comparison_of AtMost a b = not (is_gt (order_of a b))
comparison_of AtLeast a b = not (is_lt (order_of a b))
