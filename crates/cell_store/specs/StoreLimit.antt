-- How many cells may be stored.
use Rattle.std.specs.Prelude.{ℕ}

-- the most entries of a store
abbrev pub most_cells : ℕ
most_cells = 1000000
