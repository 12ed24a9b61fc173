-- How wide a text is to be, and the spaces that make it so wide.
use Rattle.std.specs.Prelude.{ℕ, ◌-◌, ℤ, pos, negsuc, List, ◌++◌, length, replicate}
use Rattle.cube_fixed.specs.Places.{whole_part}
use Rattle.dim_name.specs.Bytes.{space}

-- a number as a count, at least none
abbrev pub at_least_none : ℤ → ℕ
at_least_none (pos n) = n
at_least_none (negsuc n) = 0

-- the width that a number says: its whole part, at least none
unfoldable pub width_in : ℤ → ℕ
width_in millionths = at_least_none (whole_part millionths)

-- a text with spaces in front up to a width; a longer one stays whole
abbrev pub padded : ℕ → List ℕ → List ℕ
padded width text = replicate (width - length text) space ++ text
