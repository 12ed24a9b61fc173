-- Tables of numbers over the elements of a dimension.
use Rattle.std.specs.Prelude.{ℕ, ℤ, pos, Bool, List, map, unwrap_or, slice_get, if◌then◌else◌}
use Rattle.cube_fixed.specs.Range.{unit}

-- the number of an element, in millionths; 0 for one that the table doesn't have
abbrev pub number_of : List ℤ → ℕ → ℤ
number_of table element = unwrap_or (slice_get table element) (pos 0)

-- 1 for an element that is marked, and 0 for another one
abbrev pub mark_number : Bool → ℤ
mark_number marked = if marked then pos unit else pos 0

abbrev pub mark_numbers : List Bool → List ℤ
mark_numbers marks = map mark_number marks
