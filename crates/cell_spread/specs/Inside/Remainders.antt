-- What is left of a share that is rounded down.
use Rattle.std.specs.Prelude.{ℕ, ◌+◌, ◌*◌, ℤ, ◌-ℤ◌, ◌*ℤ◌, unsigned_abs, List, [], ◌∷◌}
use Rattle.cube_fixed.specs.Range.{most_millionths}
use Rattle.cell_spread.specs.Shares.{floor_ratio}

-- how large an amount times a part is at most
abbrev pub most_product : ℕ
most_product = most_millionths * most_millionths

-- how far n is from d times the floor of n / d
abbrev pub left_of : ℤ → ℤ → ℕ
left_of n d = unsigned_abs (n -ℤ (floor_ratio n d *ℤ d))

-- what is left of all shares together
abbrev pub lefts_of : ℤ → ℤ → List (ℕ × ℤ) → ℕ
lefts_of amount total [] = 0
lefts_of amount total (one ∷ parts) = left_of (amount *ℤ one.1) total + lefts_of amount total parts
