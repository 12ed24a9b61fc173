-- How a pass goes on over files: which it reads, and what was asked of the files.
use Rattle.std.specs.Prelude.{◌≡◌, List, [], ◌∷◌, ◌++◌, ℕ, None, ◌⊎◌}
use Rattle.file_passes.specs.Course.{Contents, IsReadNext, names_of}
use Rattle.file_passes.specs.Outside.{Outside}
use Rattle.file_passes.specs.Pass.{Readings, bytes_of, Pass}

-- from the older files on, each was read at its turn, and was new
abbrev pub IsReadOn : {A : Type 0} → Pass A → Contents → Readings → Readings → Type 0
IsReadOn pass known old [] = old ≡ []
IsReadOn pass known old (reading ∷ older) =
    (old ≡ reading ∷ older)
    ⊎ (IsReadNext pass known older reading × (bytes_of older reading.0 ≡ None) × IsReadOn pass known old older)

-- where just the names of the older files had been asked for, just those of the newer ones were at the end, and then
-- these
abbrev pub Asks : Outside → Readings → Readings → List (List ℕ) → Type 0
Asks o old new more =
    (base : List (List ℕ)) → o.asked_before ≡ names_of old ++ base → o.asked_after ≡ more ++ (names_of new ++ base)

-- no read failed
abbrev pub Goes : {A : Type 0} → Pass A → Outside → Readings → Readings → Type 0
Goes pass o old new = IsReadOn pass o.known old new × (o.after ≡ o.before) × Asks o old new []
