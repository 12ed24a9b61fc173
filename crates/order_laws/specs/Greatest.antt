-- Sums of one number a dimension, where an element of a dimension may have no number, and the greatest of numbers.
use Rattle.std.specs.Prelude.{ℕ, zero, suc, Bool, true, false, ◌||◌, ℤ, pos, ◌+ℤ◌, ◌≤ℤ◌, Option, Some, None, IfSome}
use Rattle.std.specs.Prelude.{List, [], ◌∷◌}
use Rattle.std.specs.Int.{int_max}

-- the sum of two numbers, where both are there
abbrev pub plus : Option ℤ → Option ℤ → Option ℤ
plus None b = None
plus (Some a) None = None
plus (Some a) (Some b) = Some (a +ℤ b)

-- the larger of two numbers, or the one that is there
abbrev pub larger : Option ℤ → Option ℤ → Option ℤ
larger None b = b
larger (Some a) None = Some a
larger (Some a) (Some b) = Some (int_max a b)

-- no greater than this, where it is there
abbrev pub IsAtMost : Option ℤ → ℤ → Type 0
IsAtMost number most = IfSome number (λ n. n ≤ℤ most)

-- the greatest of the numbers at the first places
abbrev pub greatest : (ℕ → Option ℤ) → ℕ → Option ℤ
greatest number zero = None
greatest number (suc place) = larger (number place) (greatest number place)

-- the sum of the numbers of these elements, one of each dimension from this one on
abbrev pub sum_from : (ℕ → ℕ → Option ℤ) → ℕ → List ℕ → Option ℤ
sum_from number dim [] = Some (pos 0)
sum_from number dim (element ∷ elements) = plus (number dim element) (sum_from number (suc dim) elements)

-- whether one of these elements, one of each dimension from this one on, passes
abbrev pub any_from : (ℕ → ℕ → Bool) → ℕ → List ℕ → Bool
any_from test dim [] = false
any_from test dim (element ∷ elements) = test dim element || any_from test (suc dim) elements

-- the number of an element that passes, or doesn't
abbrev pub only : Bool → Option ℤ → Option ℤ
only true number = number
only false number = None
