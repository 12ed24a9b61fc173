-- The slots of the leaves of a dimension, each for the leaf that leads to it.
use Rattle.std.specs.Prelude.{◌≡◌, ℕ, ◌<◌, ◌==◌, Bool, true, false, not, ◌||◌, Option, Some}
use Rattle.std.specs.Prelude.{None, is_some, if◌then◌else◌, ℤ, List, length}
use Rattle.std.specs.Prelude.{[], filter, slice_index_or, slice_set}
use Rattle.std.specs.List.{list_any, list_all}
use Rattle.dim_core.specs.Outline.{Outline}
use Rattle.dim_weights.specs.Table.{leaves_in}
use Rattle.cube_space.specs.Cells.{is_leaf}
use Rattle.feed_turn.specs.Leaves.{all_elements}

-- whether a leaf is among these pairs
abbrev pub has_leaf : List (ℕ × ℤ) → ℕ → Bool
has_leaf pairs x = list_any (λ pair. pair.0 == x) pairs

-- an element is put into the slots of these leaves, which were free
pub record IsPut (pairs : List (ℕ × ℤ)) (element : ℕ) (old new : List (Option ℕ)) : Type 0 where
  pub long : length new ≡ length old
  pub each : (x : ℕ) → x < length old
      → slice_index_or new x None ≡ (if has_leaf pairs x then Some element else slice_index_or old x None)
  pub free : (x : ℕ) → x < length old → has_leaf pairs x ≡ true → slice_index_or old x None ≡ None

-- the slot of one of these leaves isn't free
abbrev pub IsTaken : List (ℕ × ℤ) → List (Option ℕ) → Type 0
IsTaken pairs slots =
    (x : ℕ) × (x < length slots) × (has_leaf pairs x ≡ true) × (is_some (slice_index_or slots x None) ≡ true)

-- the leaves of an element, if there is one
abbrev pub pairs_from : List (List (ℕ × ℤ)) → Option ℕ → List (ℕ × ℤ)
pairs_from weights None = []
pairs_from weights (Some element) = leaves_in weights element

-- the marks with that of an element, if there is one
abbrev pub marked_at : List Bool → Option ℕ → List Bool
marked_at marks None = marks
marked_at marks (Some element) = slice_set marks element true

-- whether each leaf of a dimension is marked
abbrev pub has_each_leaf : Outline → List Bool → Bool
has_each_leaf d marks = list_all (λ e. not (is_leaf d e) || slice_index_or marks e false) (all_elements d)

-- the elements that are marked, as a set of an area
abbrev pub marked_set : Outline → List Bool → Option (List ℕ)
marked_set d marks =
    if has_each_leaf d marks then None else Some (filter (λ e. slice_index_or marks e false) (all_elements d))
