-- The heights of the declared order: how many ranks there are by its positions.
use Rattle.std.specs.Prelude.{ℕ, ◌+◌, nat_lt, Option, List, map, take}
use Rattle.std.specs.List.{range_with_len, find}
use Rattle.cube_space.specs.Radix.{product}
use Rattle.rule_model.specs.BoundModel.{BoundModel}
use Rattle.rule_model.specs.Order.{most_height, most_positions, position_sizes}

-- the height up to each position: the product of the sizes of the positions up to it
abbrev pub heights : List ℕ → List ℕ
heights sizes = map (λ n. product (take (n + 1) sizes)) (range_with_len 0 most_positions)

-- the height up to the first position at which it is too great
unfoldable pub first_too_high : BoundModel → Option ℕ
first_too_high model = find (nat_lt most_height) (heights (position_sizes model))
