-- Which files were read.
use Rattle.std.specs.Prelude.{ℕ, List, Bool, true, false}
use Rattle.cube_outside.specs.declared.files.Extent.{Extent}
use Rattle.file_passes.specs.Pass.{Readings, Obstacle, Source, files}

-- the files of these names were all read, or one is to be read, as much of each as this
abbrev pub AreRead : Readings → List (List ℕ) → Bool → Type 0
AreRead readings names true = (extent : Extent) → (all : List Source) × (files extent names).finds readings all
AreRead readings names false = (extent : Extent) → (stop : Obstacle) × (files extent names).stops readings stop
