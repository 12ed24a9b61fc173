use Rattle.std.specs.Prelude.{ℕ, ◌≤◌, List, take}
use Rattle.cube_outside.specs.declared.files.Extent.{Extent}
use Rattle.cube_outside.specs.declared.files.Extent.TheVariants.{Whole, Front}

-- what is read of a file of these bytes
abbrev pub part_of : Extent → List ℕ → List ℕ
part_of Whole bytes = bytes
part_of (Front most) bytes = take most bytes

-- so many bytes may be read
abbrev pub IsWithin : Extent → ℕ → Type 0
IsWithin Whole count = Unit {0}
IsWithin (Front most) count = count ≤ most
