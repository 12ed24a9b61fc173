-- Elements with the very same components.
use Rattle.std.specs.Prelude.{◌≡◌, ◌≢◌, ◌⊎◌, ℕ, ◌<◌, ℤ, List, [], length, All, map, slice_index_or}
use Rattle.dim_core.specs.Outline.{Outline, IsElement, components_of}
use Rattle.dim_weights.specs.Table.{leaves_in}
use Rattle.dim_weights.specs.Inside.Rows.{pairs_over}

-- the element that stands in for this one: itself past the end
abbrev pub stand_in : List ℕ → ℕ → ℕ
stand_in alike element = slice_index_or alike element element

-- an element has the very same components as a later one, and some
pub record IsAlike (d : Outline) (other element : ℕ) : Type 0 where
  pub earlier : other < element
  pub same : components_of d other ≡ components_of d element
  pub some : components_of d element ≢ []

-- an element stands in for itself, or for one that is alike
abbrev pub MayStandIn : Outline → ℕ → ℕ → Type 0
MayStandIn d other element = (other ≡ element) ⊎ IsAlike d other element

abbrev pub AreAlike : Outline → List ℕ → Type 0
AreAlike d alike = (element : ℕ) → IsElement d element → MayStandIn d (stand_in alike element) element

-- these components by what stands in for them
abbrev pub stood_in : List ℕ → List (ℕ × ℤ) → List (ℕ × ℤ)
stood_in alike parts = map (λ part. (stand_in alike part.0, part.1)) parts

-- what stands in for these components has the same rows
abbrev pub HaveSameRows : List (List (ℕ × ℤ)) → List ℕ → List (ℕ × ℤ) → Type 0
HaveSameRows rows alike parts = All (λ part. (stand_in alike part.0 < length rows)
    × (leaves_in rows (stand_in alike part.0) ≡ leaves_in rows part.0)) parts

-- where another element stands in for one with these components, its row is that of the element
abbrev pub HasSameRow : ℕ → List (List (ℕ × ℤ)) → List ℕ → ℕ → List (ℕ × ℤ) → Type 0
HasSameRow n rows alike element parts = (stand_in alike element ≡ element) ⊎ ((stand_in alike element < length rows)
    × (leaves_in rows (stand_in alike element) ≡ pairs_over n rows element parts))
