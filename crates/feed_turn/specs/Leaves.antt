-- The leaves that an area has in a dimension, and the element over them.
use Rattle.std.specs.Prelude.{ℕ, Bool, not, ◌&&◌, Option, Some, None, List, [], ◌∷◌, length, filter, find}
use Rattle.std.specs.List.{list_all, range_with_len}
use Rattle.dim_core.specs.Outline.{Outline}
use Rattle.dim_weights.specs.Coefficients.{coef}
use Rattle.dim_weights.specs.Table.{is_nonzero}
use Rattle.cube_space.specs.Cells.{is_leaf}

-- the elements of a dimension, by index
abbrev pub all_elements : Outline → List ℕ
all_elements d = range_with_len 0 (length d.elements)

-- the elements that a set of an area has in its dimension
abbrev pub set_elements : Outline → Option (List ℕ) → List ℕ
set_elements d None = all_elements d
set_elements d (Some listed) = listed

-- the leaves among them
abbrev pub set_leaves : Outline → Option (List ℕ) → List ℕ
set_leaves d set = filter (is_leaf d) (set_elements d set)

-- whether a leaf counts in an element
abbrev pub counts : Outline → ℕ → ℕ → Bool
counts d element leaf = is_nonzero (coef d element leaf)

-- whether an element is consolidated, and each of these leaves counts in it
abbrev pub is_total_over : Outline → List ℕ → ℕ → Bool
is_total_over d leaves element = not (is_leaf d element) && list_all (counts d element) leaves

-- the first such element
abbrev pub least_total : Outline → List ℕ → Option ℕ
least_total d leaves = find (is_total_over d leaves) (all_elements d)

-- the element over these leaves: the only one of them, or else the first consolidated element in which each counts
abbrev pub over : Outline → List ℕ → Option ℕ
over d (leaf ∷ []) = Some leaf
over d leaves = least_total d leaves
