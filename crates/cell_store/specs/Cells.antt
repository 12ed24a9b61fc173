-- Sets of cells, seen as rising lists.
use Rattle.std.specs.Prelude.{ℕ, Option, nat_le, List, find, Contains, ◌↔◌, ◌⊎◌}
use Rattle.std.specs.List.Sorted.{IsStrictlyIncreasing}

-- the first cell at or above this one: in a rising list, the least
abbrev pub next_from : List ℕ → ℕ → Option ℕ
next_from cells cell = find (λ other. nat_le cell other) cells

-- the set of the cells of both, each once and in their order
pub record IsUnion (set added union : List ℕ) : Type 0 where
  pub rising : IsStrictlyIncreasing union
  pub cells : (cell : ℕ) → Contains union cell ↔ (Contains set cell ⊎ Contains added cell)

-- the cells of the set that aren't among these, each once and in their order
pub record IsDifference (set removed left : List ℕ) : Type 0 where
  pub rising : IsStrictlyIncreasing left
  pub cells : (cell : ℕ) → Contains left cell ↔ (Contains set cell × (Contains removed cell → ⊥))
