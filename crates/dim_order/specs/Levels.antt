-- The level of an element: how many steps lie at most between it and a leaf below it.
use Rattle.std.specs.Prelude.{◌≡◌, ℕ, ◌+◌, ◌<◌, max, ℤ, List, [], ◌∷◌, length, slice_index}
use Rattle.equations.specs.Equations.{table_by_rounds}
use Rattle.dim_order.specs.Loops.{parts_of}

-- one more than the greatest level of these components, or 0 without any
abbrev pub level_over : (ℕ → ℕ) → List (ℕ × ℤ) → ℕ
level_over levels [] = 0
level_over levels (part ∷ parts) = max (levels part.0 + 1) (level_over levels parts)

-- the right sides of the equations of levels
abbrev pub level_side : List (List (ℕ × ℤ)) → (ℕ → ℕ) → ℕ → ℕ
level_side lists levels element = level_over levels (parts_of lists element)

-- the level of an element: 0 without components, and otherwise one more than the greatest level of a component
unfoldable pub level_of : List (List (ℕ × ℤ)) → ℕ → ℕ
level_of lists element = table_by_rounds 0 (level_side lists) (λ _. length lists) element

-- the levels of all elements
pub record AreLevels (lists : List (List (ℕ × ℤ))) (levels : List ℕ) : Type 0 where
  pub whole : length levels ≡ length lists
  pub each : (element : ℕ) → element < length lists → slice_index levels element ≡ level_of lists element
