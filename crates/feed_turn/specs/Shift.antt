-- A map that moves all elements as far, in place of one that lists where each goes.
use Rattle.std.specs.Prelude.{ℕ, ◌+◌, ◌-◌, ◌==◌, nat_lt, Bool, true, false, Option, Some, None, if◌then◌else◌}
use Rattle.std.specs.Prelude.{List, [], ◌∷◌, length}
use Rattle.std.specs.List.{list_all, range_with_len}
use Rattle.std.specs.Option.{option_map_or}
use Rattle.rule_laws.specs.Maps.{identity, behind, before}
use Rattle.cover_laws.specs.Looking.{sent}

-- the map of so many elements that moves each as far as from the one place to the other
abbrev pub shift : ℕ → ℕ → ℕ → List (Option ℕ)
shift size from to = if from == to then identity size
    else if nat_lt from to then behind size (to - from) else before size (from - to)

-- the map that moves each as far as a list moves the first that it sends anywhere; places count from this one
abbrev pub shift_from : ℕ → ℕ → List (Option ℕ) → Option (List (Option ℕ))
shift_from size place [] = None
shift_from size place (None ∷ back) = shift_from size (place + 1) back
shift_from size place (Some element ∷ back) = Some (shift size place element)

-- whether a map sends an element where it is to go
abbrev pub goes : List (Option ℕ) → ℕ → Option ℕ → Bool
goes map element None = true
goes map element (Some target) = option_map_or (λ other. other == target) (sent map element) false

-- whether a map sends each element that another sends anywhere to the same
abbrev pub sends_alike : List (Option ℕ) → List (Option ℕ) → Bool
sends_alike map back = list_all (λ element. goes map element (sent back element)) (range_with_len 0 (length back))

-- a map in its short form, where it has one, and else as it is
abbrev pub shifted : List (Option ℕ) → Option (List (Option ℕ)) → List (Option ℕ)
shifted back None = back
shifted back (Some map) = if sends_alike map back then map else back

-- of a map that stays within a dimension, that which moves all elements as far, if it sends those that are sent alike
unfoldable pub short_form : Bool → List (Option ℕ) → List (Option ℕ)
short_form false back = back
short_form true back = shifted back (shift_from (length back) 0 back)
