-- The one rule of rounding: to the nearest whole number, halves away from zero.
use Rattle.std.specs.Prelude.{ℕ, suc, ◌+◌, ◌*◌, ◌/◌, ℤ, pos, negsuc, neg_ℤ}

-- the whole number nearest to n / d, which is the floor of n / d + 1 / 2; a half goes up
abbrev pub nearest : ℕ → ℕ → ℕ
nearest n d = (2 * n + d) / (2 * d)

-- the same with signs; a half goes away from zero
abbrev pub nearest_ratio : ℤ → ℤ → ℤ
nearest_ratio (pos n) (pos d) = pos (nearest n d)
nearest_ratio (pos n) (negsuc d) = neg_ℤ (pos (nearest n (suc d)))
nearest_ratio (negsuc n) (pos d) = neg_ℤ (pos (nearest (suc n) d))
nearest_ratio (negsuc n) (negsuc d) = pos (nearest (suc n) (suc d))
