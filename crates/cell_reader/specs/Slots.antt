-- Into how many slots the cells of a version fall: a power of two between two bounds.
use Rattle.std.specs.Prelude.{ℕ, ◌^◌}

-- the fewest and the most slots
abbrev pub min_slots : ℕ
min_slots = 2 ^ 12

abbrev pub max_slots : ℕ
max_slots = 2 ^ 18

-- between the bounds there is a slot for so many cells of the model, where as much was written
abbrev pub cells_per_slot : ℕ
cells_per_slot = 2 ^ 8
