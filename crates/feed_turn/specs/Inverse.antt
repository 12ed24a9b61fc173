-- Which leaves of an area a map sends to an element over a leaf, and the map back from there.
use Rattle.std.specs.Prelude.{ℕ, Bool, false, nat_le, Option, Some, None, if◌then◌else◌, List, length, filter, map}
use Rattle.std.specs.Prelude.{slice_get}
use Rattle.std.specs.List.{list_all}
use Rattle.std.specs.Option.{option_map_or}
use Rattle.dim_core.specs.Outline.{Outline}
use Rattle.cover_laws.specs.Looking.{sent}
use Rattle.feed_turn.specs.Leaves.{all_elements, counts}

-- whether a map sends an element to one of a dimension in which this leaf counts
abbrev pub leads : Outline → List (Option ℕ) → ℕ → ℕ → Bool
leads d to leaf element = option_map_or (λ target. counts d target leaf) (sent to element) false

-- those of these leaves that lead to a leaf of the dimension
abbrev pub leading_to : Outline → List (Option ℕ) → List ℕ → ℕ → List ℕ
leading_to d to leaves leaf = filter (leads d to leaf) leaves

-- whether at most one leads to each
abbrev pub is_one_to_one : Outline → List (Option ℕ) → List ℕ → Bool
is_one_to_one d to leaves = list_all (λ leaf. nat_le (length (leading_to d to leaves leaf)) 1) (all_elements d)

-- the map back sends each leaf of the dimension to the only one that leads to it, if one does
abbrev pub only_leading : Outline → List (Option ℕ) → List ℕ → List (Option ℕ)
only_leading d to leaves = map (λ leaf. slice_get (leading_to d to leaves leaf) 0) (all_elements d)

unfoldable pub inverse : Outline → List (Option ℕ) → List ℕ → Option (List (Option ℕ))
inverse d to leaves = if is_one_to_one d to leaves then Some (only_leading d to leaves) else None
