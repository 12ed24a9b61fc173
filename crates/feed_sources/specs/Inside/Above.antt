-- The elements that a leaf counts in.
use Rattle.std.specs.Prelude.{◌≡◌, ℕ, ◌<◌, ◌⊎◌, ◌↔◌, true, ℤ, List, [], length, map, slice_index_or, Contains}
use Rattle.dim_core.specs.Outline.{Outline, IsElement}
use Rattle.dim_weights.specs.Coefficients.{coef}
use Rattle.dim_weights.specs.Table.{is_nonzero, leaves_in}

-- of each leaf the elements of the dimension that it counts in
pub record IsAboveOf (d : Outline) (rows : List (List ℕ)) : Type 0 where
  pub whole : length rows ≡ length d.elements
  pub each : (leaf element : ℕ) → IsElement d leaf
      → Contains (slice_index_or rows leaf []) element
      ↔ (IsElement d element × (is_nonzero (coef d element leaf) ≡ true))

-- so many rows, and nothing in any
pub record AreAllEmpty (count : ℕ) (rows : List (List ℕ)) : Type 0 where
  pub whole : length rows ≡ count
  pub none : (leaf : ℕ) → slice_index_or rows leaf [] ≡ []

-- this element was added to the rows of these leaves
pub record AreAdded (before : List (List ℕ)) (element : ℕ) (pairs : List (ℕ × ℤ)) (after : List (List ℕ)) : Type 0 where
  pub whole : length after ≡ length before
  pub each : (leaf other : ℕ) → leaf < length before → Contains (slice_index_or after leaf []) other
      ↔ (Contains (slice_index_or before leaf []) other
      ⊎ ((other ≡ element) × Contains (map (λ pair. pair.0) pairs) leaf))

-- the rows have the first so many elements
pub record AreAbove (table : List (List (ℕ × ℤ))) (count : ℕ) (rows : List (List ℕ)) : Type 0 where
  pub whole : length rows ≡ length table
  pub each : (leaf element : ℕ) → leaf < length table → Contains (slice_index_or rows leaf []) element
      ↔ ((element < count) × Contains (map (λ pair. pair.0) (leaves_in table element)) leaf)

-- some element is in both lists
abbrev pub Meet : List ℕ → List ℕ → Type 0
Meet some others = (element : ℕ) × Contains some element × Contains others element
