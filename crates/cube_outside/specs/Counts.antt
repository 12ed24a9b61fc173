use Rattle.std.specs.Prelude.{◌≡◌, ℕ, ◌+◌, ◌-◌, ◌^◌, ◌<◌, ◌⊎◌, min}

-- the last value of a count in 64 bits
abbrev pub last_count : ℕ
last_count = 2 ^ 64 - 1

-- one more, where a count that has reached its last value stays there
abbrev pub one_more : ℕ → ℕ
one_more n = min (n + 1) last_count

-- a count rose, or stands at its last value
abbrev pub Rose : ℕ → ℕ → Type 0
Rose old new = (old < new) ⊎ (new ≡ last_count)
