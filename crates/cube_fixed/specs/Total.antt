-- A weighted sum that is exact to its end.
use Rattle.std.specs.Prelude.{ℕ, ◌+◌, ◌^◌, ℤ, pos, ◌+ℤ◌, ◌*ℤ◌, Bool, false, not, ◌||◌, if◌then◌else◌}
use Rattle.std.specs.Ordering.{int_eq}
use Rattle.cube_fixed.specs.declared.value.Value.{Value}
use Rattle.cube_fixed.specs.declared.value.Value.TheVariants.{Num, Over}
use Rattle.cube_fixed.specs.Arithmetic.{fit}

-- how far the coefficient of a term may be from 0
abbrev pub most_term_coefficient : ℕ
most_term_coefficient = 10 ^ 9

-- the terms added so far: their exact sum in millionths, whether Over is among them, and how many they are
pub record Total : Type 0 where
  pub exact : ℤ
  pub over : Bool
  pub terms : ℕ

-- no terms
abbrev pub no_terms : Total
no_terms = record { exact = pos 0; over = false; terms = 0 }

-- what the term coef * v adds to the exact sum
abbrev pub term_of : ℤ → Value → ℤ
term_of coef (Num z) = coef *ℤ z
term_of coef Over = pos 0

-- whether Over enters the sum by this term: with the coefficient 0 nothing does
abbrev pub over_enters : ℤ → Value → Bool
over_enters coef (Num z) = false
over_enters coef Over = not (int_eq coef (pos 0))

-- the sum with the term coef * v more
abbrev pub with_term : Total → ℤ → Value → Total
with_term t coef v =
    record { exact = t.exact +ℤ term_of coef v; over = t.over || over_enters coef v; terms = t.terms + 1 }

-- the value of the sum: the range is tested once, here
abbrev pub value_of : Total → Value
value_of t = if t.over then Over else fit t.exact
