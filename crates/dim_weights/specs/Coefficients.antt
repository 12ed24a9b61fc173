-- How much a leaf counts in an element.
use Rattle.std.specs.Prelude.{ℕ, ◌==◌, ℤ, pos, ◌+ℤ◌, ◌*ℤ◌, List, [], ◌∷◌, length, if◌then◌else◌}
use Rattle.equations.specs.Equations.{table_by_rounds}
use Rattle.dim_core.specs.Outline.{Outline, components_of}

-- the sum over these components, each naming counted, of the weight times the component's value
abbrev pub weighted_sum : (ℕ → ℤ) → List (ℕ × ℤ) → ℤ
weighted_sum value [] = pos 0
weighted_sum value (part ∷ parts) = (part.1 *ℤ value part.0) +ℤ weighted_sum value parts

-- what a leaf counts in an element with these components, where the table says what it counts in each of them: an
-- element without components is a leaf, in which only it itself counts, and just once
abbrev pub coef_over : ℕ → ℕ → (ℕ → ℤ) → List (ℕ × ℤ) → ℤ
coef_over leaf element table [] = if element == leaf then pos 1 else pos 0
coef_over leaf element table (part ∷ parts) = weighted_sum table (part ∷ parts)

-- the right sides of the equations of one leaf's coefficients
abbrev pub coef_side : Outline → ℕ → (ℕ → ℤ) → ℕ → ℤ
coef_side d leaf table element = coef_over leaf element table (components_of d element)

-- the coefficient of a leaf in an element
unfoldable pub coef : Outline → ℕ → ℕ → ℤ
coef d element leaf = table_by_rounds (pos 0) (coef_side d leaf) (λ _. length d.elements) element

-- the greatest size of a coefficient, and the most pairs of an element and a leaf that counts in it
abbrev pub most_coefficient : ℕ
most_coefficient = 1000000000

abbrev pub most_pairs : ℕ
most_pairs = 4000000
