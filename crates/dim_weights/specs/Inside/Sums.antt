-- Sums by leaf.
use Rattle.std.specs.Prelude.{◌≡◌, ℕ, ◌≤◌, ◌<◌, Bool, false, ℤ, pos, List, [], ◌∷◌, length, All, count_by, nat_eq}
use Rattle.std.specs.Prelude.{unsigned_abs, slice_index_or, if◌then◌else◌}
use Rattle.std.specs.List.{list_any, range_with_len}
use Rattle.dim_weights.specs.Table.{is_nonzero, nonzero_among, leaves_in, greatest_in, IsRising}
use Rattle.dim_weights.specs.Coefficients.{most_coefficient, most_pairs}

-- the sum of a leaf
abbrev pub sum_at : List ℤ → ℕ → ℤ
sum_at sums leaf = slice_index_or sums leaf (pos 0)

-- the pair of a leaf with its sum, unless that is 0
abbrev pub nonzero_pair : ℕ → ℤ → List (ℕ × ℤ)
nonzero_pair leaf sum = if is_nonzero sum then (leaf, sum) ∷ [] else []

-- the leaves with a sum other than 0, each with it, in rising order
abbrev pub nonzero_sums : List ℤ → List (ℕ × ℤ)
nonzero_sums sums = nonzero_among (sum_at sums) (range_with_len 0 (length sums))

-- no sum is other than 0
abbrev pub AreZero : List ℤ → Type 0
AreZero sums = (leaf : ℕ) → sum_at sums leaf ≡ pos 0

-- the leaves that may have another sum than 0 are marked, and each of them is listed once
pub record IsTouched (sums : List ℤ) (marked : List Bool) (touched : List ℕ) : Type 0 where
  pub whole : length marked ≡ length sums
  pub once : (leaf : ℕ) → count_by (nat_eq leaf) touched ≡ (if slice_index_or marked leaf false then 1 else 0)
  pub rest : (leaf : ℕ) → slice_index_or marked leaf false ≡ false → sum_at sums leaf ≡ pos 0

-- pairs as a table keeps them: leaves below n in rising order, with coefficients of at most a billion in size
pub record IsRow (n : ℕ) (pairs : List (ℕ × ℤ)) : Type 0 where
  pub leaves : All (λ pair. pair.0 < n) pairs
  pub rising : IsRising pairs
  pub small : greatest_in pairs ≤ most_coefficient
  pub few : length pairs ≤ most_pairs

-- such pairs for each element
abbrev pub AreRows : ℕ → List (List (ℕ × ℤ)) → Type 0
AreRows n rows = (element : ℕ) → IsRow n (leaves_in rows element)

-- no sum is greater in size
abbrev pub AreWithin : ℕ → List ℤ → Type 0
AreWithin bound sums = (leaf : ℕ) → unsigned_abs (sum_at sums leaf) ≤ bound

-- the list with this value at these places
abbrev pub ArePut : {X : Type 0} → List ℕ → X → List X → List X → Type 0
ArePut places value before after = (length after ≡ length before) × ((place : ℕ)
    → slice_index_or after place value ≡ (if list_any (nat_eq place) places then value
    else slice_index_or before place value))
