-- How numbers are counted, and how far they reach.
use Rattle.std.specs.Prelude.{ℕ, ◌≤◌, ℤ, unsigned_abs, Bool, nat_le}

-- one whole unit, in millionths
abbrev pub unit : ℕ
unit = 1000000

-- the largest count of millionths on either side of 0
abbrev pub most_millionths : ℕ
most_millionths = 9000000000000000000

-- a whole count of millionths that a number can have
abbrev pub IsInRange : ℤ → Type 0
IsInRange z = unsigned_abs z ≤ most_millionths

-- the same, as a test
abbrev pub is_in_range : ℤ → Bool
is_in_range z = nat_le (unsigned_abs z) most_millionths
