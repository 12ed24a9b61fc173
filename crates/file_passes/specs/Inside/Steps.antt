-- What the functions promise one another that read.
use Rattle.std.specs.Prelude.{◌≡◌, ℕ, List, ◌∷◌, None, IsSome, Result, ◌⊎◌}
use Rattle.cube_outside.specs.Seen.{Seen}
use Rattle.cube_outside.specs.declared.files.Extent.{Extent}
use Rattle.file_passes.specs.declared.halt.Halt.{Halt}
use Rattle.file_passes.specs.Course.{Contents, Tells}
use Rattle.file_passes.specs.Outside.{outside}
use Rattle.file_passes.specs.Pass.{Readings, bytes_of, files}
use Rattle.file_passes.specs.Halting.{ComesThrough}

-- the file of this name was there already and wasn't asked for, or it was asked for and as much of it as this read now
abbrev pub IsReadOnce : Contents → Extent → List ℕ → Readings → Readings → List (List ℕ) → List (List ℕ) → Type 0
IsReadOnce known extent name old new asked_before asked_after =
    (IsSome (bytes_of old name) × (new ≡ old) × (asked_after ≡ asked_before))
    ⊎ ((bytes : List ℕ) × (bytes_of old name ≡ None) × Tells known extent name bytes × (new ≡ (name, bytes) ∷ old)
    × (asked_after ≡ name ∷ asked_before))

-- from this start, reading all of these files ends as reading the rest of them ends
abbrev pub CarriesOn : {F : Type 0} → (F → Seen) → Extent → List (List ℕ) → F → Readings
    → List (List ℕ) → F → Readings → Type 0
CarriesOn {F} seen extent names start first rest now readings =
    (end : F) (new : Readings) (result : Result (Unit {0}) Halt)
    → ComesThrough (files extent rest) (outside seen now end) readings new result
    → ComesThrough (files extent names) (outside seen start end) first new result
