-- The heights from a position on.
use Rattle.std.specs.Prelude.{ℕ, ◌+◌, nat_lt, Option, List, map, take}
use Rattle.std.specs.List.{range_with_len, find}
use Rattle.cube_space.specs.Radix.{product}
use Rattle.rule_model.specs.Order.{most_height}

-- the first of so many heights from this position on that is too great
abbrev pub high_from : List ℕ → ℕ → ℕ → Option ℕ
high_from sizes place count =
    find (nat_lt most_height) (map (λ n. product (take (n + 1) sizes)) (range_with_len place count))
