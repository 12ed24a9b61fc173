-- Coefficients as lists of pairs.
use Rattle.std.specs.Prelude.{◌≡◌, ℕ, zero, suc, max, ◌==◌, Bool, true, false, ℤ, pos, negsuc, ◌+ℤ◌, List, [], ◌∷◌}
use Rattle.std.specs.Prelude.{length, map, filter, unsigned_abs, slice_index_or, if◌then◌else◌}
use Rattle.std.specs.List.{range_with_len}
use Rattle.std.specs.List.Sorted.{IsStrictlyIncreasing}
use Rattle.dim_core.specs.Outline.{Outline}
use Rattle.dim_core.specs.Outline.{IsElement}
use Rattle.dim_weights.specs.Coefficients.{coef}

abbrev pub is_nonzero : ℤ → Bool
is_nonzero (pos zero) = false
is_nonzero (pos (suc n)) = true
is_nonzero (negsuc n) = true

-- those of these leaves with a value other than 0, each with it
abbrev pub nonzero_among : (ℕ → ℤ) → List ℕ → List (ℕ × ℤ)
nonzero_among value leaves = filter (λ pair. is_nonzero pair.1) (map (λ leaf. (leaf, value leaf)) leaves)

-- the leaves of an element: those with a coefficient other than 0 in it, each with its coefficient, in rising order
abbrev pub leaves_of : Outline → ℕ → List (ℕ × ℤ)
leaves_of d element = nonzero_among (coef d element) (range_with_len 0 (length d.elements))

-- each pair has a greater leaf than the one before it
abbrev pub IsRising : List (ℕ × ℤ) → Type 0
IsRising pairs = IsStrictlyIncreasing (map (λ pair. pair.0) pairs)

-- the pairs that a table has for an element
abbrev pub leaves_in : List (List (ℕ × ℤ)) → ℕ → List (ℕ × ℤ)
leaves_in weights element = slice_index_or weights element []

-- a table has the leaves of each element of the dimension
pub record IsWeightsOf (d : Outline) (weights : List (List (ℕ × ℤ))) : Type 0 where
  pub whole : length weights ≡ length d.elements
  pub each : (element : ℕ) → IsElement d element → leaves_in weights element ≡ leaves_of d element

-- what pairs say of a leaf: together, as much as those of it, so 0 without one
abbrev pub share : List (ℕ × ℤ) → ℕ → ℤ
share [] leaf = pos 0
share (pair ∷ pairs) leaf = (if pair.0 == leaf then pair.1 else pos 0) +ℤ share pairs leaf

-- the greatest size of a coefficient among these pairs, or 0 without any
abbrev pub greatest_in : List (ℕ × ℤ) → ℕ
greatest_in [] = 0
greatest_in (pair ∷ pairs) = max (unsigned_abs pair.1) (greatest_in pairs)

-- the greatest size of a coefficient in a table
abbrev pub greatest_of : List (List (ℕ × ℤ)) → ℕ
greatest_of [] = 0
greatest_of (pairs ∷ rest) = max (greatest_in pairs) (greatest_of rest)
