-- The course of a run: which files it has read, each at its turn.
use Rattle.std.specs.Prelude.{◌≡◌, ℕ, List, [], ◌∷◌, map, Option, Some, IfSome, option_map}
use Rattle.cube_outside.specs.Extents.{part_of}
use Rattle.cube_outside.specs.declared.files.Extent.{Extent}
use Rattle.file_passes.specs.Pass.{Source, Readings, Reads, Pass}

-- the bytes under each name, where the files are known
abbrev pub Contents : Type 0
Contents = Option (List ℕ → Option (List ℕ))

-- as much as this of the file of this name is these bytes, where that is known
abbrev pub Tells : Contents → Extent → List ℕ → List ℕ → Type 0
Tells known extent name bytes = IfSome known (λ content. option_map (part_of extent) (content name) ≡ Some bytes)

-- after these files it was the turn of this one, and its bytes are what the files hold, as much as was to be read
abbrev pub IsReadNext : {A : Type 0} → Pass A → Contents → Readings → Source → Type 0
IsReadNext pass known older reading =
    (extent : Extent) × pass.stops older (Reads extent reading.0) × Tells known extent reading.0 reading.1

-- each of the files was read when it was its turn
abbrev pub IsCourse : {A : Type 0} → Pass A → Contents → Readings → Type 0
IsCourse run known [] = Unit {0}
IsCourse run known (reading ∷ older) = IsReadNext run known older reading × IsCourse run known older

-- the names of the files that were read, the last one first
abbrev pub names_of : Readings → List (List ℕ)
names_of readings = map (λ reading. reading.0) readings
