-- The families of dimensions, as they are kept.
use Rattle.std.specs.Prelude.{◌≡◌, ◌<◌, ℕ, List, length, get_or, Option, Some, None, slice_get}
use Rattle.dim_core.specs.Outline.{Outline}
use Rattle.cube_space.specs.Layout.{Layout}
use Rattle.bind_arguments.specs.Family.{parents_of, next_leaf}
use Rattle.bind_arguments.specs.Bound.{dimension_at}
use Rattle.bind_arguments.specs.Inside.Kin.{kin_at}
use Rattle.bind_arguments.specs.declared.family.Family.{Family}

-- it has the parents and the next leaf of each element
pub record IsFamilyOf (d : Outline) (family : Family) : Type 0 where
  pub parents_len : length family.parents.items ≡ length d.elements
  pub parents : (element : ℕ) → element < length family.parents.items
      → kin_at family.parents.items element ≡ parents_of d element
  pub leaves_len : length family.next_leaves.items ≡ length d.elements
  pub leaves : (element : ℕ) → element < length family.next_leaves.items
      → get_or family.next_leaves.items element None ≡ next_leaf d element

-- those that were made are of their dimensions
unfoldable pub AreFamiliesIn : Layout → List (Option Family) → Type 0
AreFamiliesIn space families = (dim : ℕ) (family : Family) → slice_get families dim ≡ Some (Some family)
    → IsFamilyOf (dimension_at space dim) family
