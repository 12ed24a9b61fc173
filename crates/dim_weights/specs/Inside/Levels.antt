-- Elements by level.
use Rattle.std.specs.Prelude.{◌≡◌, ℕ, ◌+◌, ◌<◌, ◌≤◌, List, length, All, slice_index, slice_index_or, Contains}
use Rattle.std.specs.List.Sorted.{IsNonDecreasingBy, IsPermutation, IsStableByKey}
use Rattle.std.specs.Ordering.{nat_cmp}
use Rattle.dim_core.specs.Outline.{Outline, IsElement, level}
use Rattle.dim_weights.specs.Refusal.{by_level}

-- the elements by these levels, those of one level in their order
pub record IsSortedByLevel (levels elements sorted : List ℕ) : Type 0 where
  pub moved : IsPermutation elements sorted
  pub rising : IsNonDecreasingBy (slice_index levels) sorted
  pub stable : IsStableByKey (slice_index levels) nat_cmp elements sorted

-- all elements, by level and then by index
pub record IsByLevel (d : Outline) (elements : List ℕ) : Type 0 where
  pub is : elements ≡ by_level d
  pub rising : IsNonDecreasingBy (level d) elements
  pub ties : (k e : ℕ) → k + 1 < length elements
      → level d (slice_index_or elements k e) ≡ level d (slice_index_or elements (k + 1) e)
      → slice_index_or elements k e ≤ slice_index_or elements (k + 1) e
  pub within : All (IsElement d) elements
  pub each : (element : ℕ) → IsElement d element → Contains elements element
  pub whole : length elements ≡ length d.elements
