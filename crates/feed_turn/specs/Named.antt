-- What a map names from the leaves of an area.
use Rattle.std.specs.Prelude.{ℕ, ◌==◌, Bool, not, ◌||◌, Option, Some, None, if◌then◌else◌, List, filter, filter_map}
use Rattle.std.specs.List.{list_any, list_all}
use Rattle.dim_core.specs.Outline.{Outline}
use Rattle.cube_space.specs.Cells.{is_leaf}
use Rattle.cover_laws.specs.Looking.{sent}
use Rattle.feed_turn.specs.Leaves.{all_elements}

-- whether a map sends one of these leaves to an element
abbrev pub is_named : List (Option ℕ) → List ℕ → ℕ → Bool
is_named to leaves element = list_any (λ found. found == element) (filter_map (sent to) leaves)

-- whether it does so to each leaf of the dimension
abbrev pub names_each_leaf : Outline → List (Option ℕ) → List ℕ → Bool
names_each_leaf d to leaves = list_all (λ e. not (is_leaf d e) || is_named to leaves e) (all_elements d)

-- the elements to which it sends these leaves, as a set of an area: where each leaf is named, it has all elements
unfoldable pub named_set : Outline → List (Option ℕ) → List ℕ → Option (List ℕ)
named_set d to leaves =
    if names_each_leaf d to leaves then None else Some (filter (is_named to leaves) (all_elements d))
