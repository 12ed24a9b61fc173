-- An amount that is shared out among cells in proportion to parts, in whole millionths.
use Rattle.std.specs.Prelude.{ℕ, suc, pred, nat_lt, ℤ, pos, negsuc, ◌+ℤ◌, ◌-ℤ◌, ◌*ℤ◌, neg_ℤ, unsigned_abs}
use Rattle.std.specs.Prelude.{Bool, not, ◌&&◌, List, [], ◌∷◌, map, if◌then◌else◌}
use Rattle.std.specs.Int.{int_div_euclid}
use Rattle.std.specs.Ordering.{int_eq}

-- the greatest whole number that isn't above n / d
abbrev pub floor_ratio : ℤ → ℤ → ℤ
floor_ratio n (pos d) = int_div_euclid n (pos d)
floor_ratio n (negsuc d) = int_div_euclid (neg_ℤ n) (pos (suc d))

-- whether n / d is whole
abbrev pub is_whole_ratio : ℤ → ℤ → Bool
is_whole_ratio n d = int_eq (floor_ratio n d *ℤ d) n

-- the numbers of these cells, together
abbrev pub sum_of : List (ℕ × ℤ) → ℤ
sum_of [] = pos 0
sum_of (one ∷ numbers) = one.1 +ℤ sum_of numbers

-- the share of each cell, which is amount * part / total, rounded down
abbrev pub floors_of : ℤ → ℤ → List (ℕ × ℤ) → List (ℕ × ℤ)
floors_of amount total parts = map (λ one. (one.0, floor_ratio (amount *ℤ one.1) total)) parts

-- whether a cell's share is rounded up, where so many still are: it isn't whole
abbrev pub goes_up : ℤ → ℤ → ℕ → ℤ → Bool
goes_up amount total up part = nat_lt 0 up && not (is_whole_ratio (amount *ℤ part) total)

-- the shares rounded down, but the first so many that aren't whole rounded up
abbrev pub rounded_up : ℤ → ℤ → ℕ → List (ℕ × ℤ) → List (ℕ × ℤ)
rounded_up amount total up [] = []
rounded_up amount total up (one ∷ parts) =
    if goes_up amount total up one.1
    then (one.0, floor_ratio (amount *ℤ one.1) total +ℤ pos 1) ∷ rounded_up amount total (pred up) parts
    else (one.0, floor_ratio (amount *ℤ one.1) total) ∷ rounded_up amount total up parts

-- how much of the amount is left when all shares are rounded down
abbrev pub rest_of : ℤ → List (ℕ × ℤ) → ℕ
rest_of amount parts = unsigned_abs (amount -ℤ sum_of (floors_of amount (sum_of parts) parts))

-- the numbers that the cells get: their shares, of which just as many are rounded up as makes them the amount together
unfoldable pub shared_out : ℤ → List (ℕ × ℤ) → List (ℕ × ℤ)
shared_out amount parts = rounded_up amount (sum_of parts) (rest_of amount parts) parts
