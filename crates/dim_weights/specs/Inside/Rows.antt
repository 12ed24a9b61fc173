-- A table while it is made.
use Rattle.std.specs.Prelude.{◌≡◌, ℕ, ◌+◌, ◌≤◌, ◌<◌, true, ℤ, List, length, All, slice_set, unsigned_abs}
use Rattle.std.specs.List.{range_with_len}
use Rattle.dim_core.specs.Outline.{Outline, IsWeight, components_of, most_components}
use Rattle.dim_order.specs.Members.{is_among}
use Rattle.dim_weights.specs.Coefficients.{coef_over}
use Rattle.dim_weights.specs.Table.{leaves_in, leaves_of, share, nonzero_among}
use Rattle.dim_weights.specs.Refusal.{pair_count}
use Rattle.dim_weights.specs.Inside.Sums.{AreRows}
use Rattle.dim_weights.specs.Coefficients.{most_pairs}

-- the rows that are made so far, without pairs for the other elements, and how many pairs they have
pub record Rows : Type 0 where
  pub rows : List (List (ℕ × ℤ))
  pub count : ℕ

-- what a leaf counts in an element with these components, where their rows are made
abbrev pub counted_over : List (List (ℕ × ℤ)) → ℕ → List (ℕ × ℤ) → ℕ → ℤ
counted_over rows element parts leaf = coef_over leaf element (λ part. share (leaves_in rows part) leaf) parts

-- the pairs of such an element, for leaves below n
abbrev pub pairs_over : ℕ → List (List (ℕ × ℤ)) → ℕ → List (ℕ × ℤ) → List (ℕ × ℤ)
pairs_over n rows element parts = nonzero_among (counted_over rows element parts) (range_with_len 0 n)

-- the pairs of an element of the dimension, where the rows of its components are made
abbrev pub row_of : Outline → Rows → ℕ → List (ℕ × ℤ)
row_of d made element = pairs_over (length d.elements) made.rows element (components_of d element)

-- components are below n, with weights in range, and not too many
pub record AreParts (n : ℕ) (parts : List (ℕ × ℤ)) : Type 0 where
  pub within : All (λ part. (part.0 < n) × IsWeight part.1) parts
  pub few : length parts ≤ most_components

-- the greatest size of a component's weights together, where it is named up to a million times
abbrev pub most_merged_weight : ℕ
most_merged_weight = 1000000000000

-- components are below n, each with its weights together, and not too many
pub record AreMerged (n : ℕ) (parts : List (ℕ × ℤ)) : Type 0 where
  pub within : All (λ part. part.0 < n) parts
  pub small : All (λ part. unsigned_abs part.1 ≤ most_merged_weight) parts
  pub few : length parts ≤ most_components

-- the rows with one more, of this element
abbrev pub with_row : Rows → ℕ → List (ℕ × ℤ) → Rows
with_row made element pairs = record { rows = slice_set made.rows element pairs; count = made.count + length pairs }

-- the rows of these elements of the dimension are made
pub record AreRowsOf (d : Outline) (done : List ℕ) (made : Rows) : Type 0 where
  pub whole : length made.rows ≡ length d.elements
  pub each : (element : ℕ) → is_among done element ≡ true → leaves_in made.rows element ≡ leaves_of d element
  pub counted : made.count ≡ pair_count d done

-- what the fields of a table keep while it is made
pub record IsBuilding (rows : List (List (ℕ × ℤ))) (count : ℕ) : Type 0 where
  pub made : AreRows (length rows) rows
  pub few : count ≤ most_pairs
