-- Maps from the elements of a dimension to those of another, by index.
use Rattle.std.specs.Prelude.{ℕ, ◌+◌, ◌-◌, nat_lt, if◌then◌else◌, Option, Some, None, List, map, replicate}
use Rattle.std.specs.List.{range_with_len}

-- each of so many elements goes to itself
abbrev pub identity : ℕ → List (Option ℕ)
identity size = map Some (range_with_len 0 size)

-- none of so many elements goes anywhere
abbrev pub nowhere : ℕ → List (Option ℕ)
nowhere size = replicate size None

-- each of so many elements goes to the one so many places behind it, where there is one
abbrev pub place_behind : ℕ → ℕ → ℕ → Option ℕ
place_behind size places element = if nat_lt (element + places) size then Some (element + places) else None

abbrev pub behind : ℕ → ℕ → List (Option ℕ)
behind size places = map (place_behind size places) (range_with_len 0 size)

-- and to the one so many places before it
abbrev pub place_before : ℕ → ℕ → Option ℕ
place_before places element = if nat_lt element places then None else Some (element - places)

abbrev pub before : ℕ → ℕ → List (Option ℕ)
before size places = map (place_before places) (range_with_len 0 size)
