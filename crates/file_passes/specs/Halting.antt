-- The ends of a pass.
use Rattle.std.specs.Prelude.{◌≡◌, ℕ, List, [], ◌∷◌, ◌⊎◌, Result, Ok, Err}
use Rattle.cube_outside.specs.Counts.{Rose}
use Rattle.cube_outside.specs.declared.files.FileFault.{FileFault}
use Rattle.cube_outside.specs.declared.files.FileFault.TheVariants as faults
use Rattle.file_passes.specs.declared.halt.Halt.{Halt}
use Rattle.file_passes.specs.declared.halt.Halt.TheVariants as halts
use Rattle.file_passes.specs.Outside.{Outside}
use Rattle.file_passes.specs.Pass.{Readings, Pass, Judgement, NotWords, Refuses, IsTurnOf}
use Rattle.file_passes.specs.Reading.{IsReadOn, Asks, Goes}

-- what a fault of the files makes of a run
abbrev pub unread : FileFault → Halt
unread faults.Failed = halts.Unread
unread faults.Memory = halts.Memory

-- just the names of the files that were read were asked for, and at most that of the file whose turn it was
abbrev pub AsksAtMost : {A : Type 0} → Pass A → Outside → Readings → Readings → Type 0
AsksAtMost pass o old new =
    Asks o old new [] ⊎ ((name : List ℕ) × IsTurnOf pass new name × Asks o old new (name ∷ []))

-- why the pass went no further over these files; out of memory, what was asked for at most
abbrev pub Halts : {A : Type 0} → Pass A → Outside → Readings → Readings → Halt → Type 0
Halts pass o old new halts.NotWords = pass.stops new NotWords × (o.after ≡ o.before) × Asks o old new []
Halts pass o old new halts.Unread =
    IsTurnOf pass new o.missed × Rose o.before o.after × Asks o old new (o.missed ∷ [])
Halts pass o old new (halts.Refused refusal) =
    pass.stops new (Refuses refusal) × (o.after ≡ o.before) × Asks o old new []
Halts pass o old new halts.Memory = AsksAtMost pass o old new

-- the pass found this, or went no further
abbrev pub Comes : {A : Type 0} → Pass A → Outside → Readings → Readings → Result A Halt → Type 0
Comes pass o old new (Ok a) = Goes pass o old new × pass.finds new a
Comes pass o old new (Err halt) = IsReadOn pass o.known old new × Halts pass o old new halt

-- the same of a pass that reads files, whose bytes are looked up later
abbrev pub ComesThrough : {A : Type 0} → Pass A → Outside → Readings → Readings → Result (Unit {0}) Halt → Type 0
ComesThrough {A} pass o old new (Ok u) = Goes pass o old new × ((a : A) × pass.finds new a)
ComesThrough pass o old new (Err halt) = IsReadOn pass o.known old new × Halts pass o old new halt

-- an answer is what was read is judged to be, unless memory ran out
abbrev pub Judges : {A : Type 0} → Judgement A → Result A Halt → Type 0
Judges judgement (Ok a) = judgement.stands_for a
Judges judgement (Err halts.NotWords) = ⊥
Judges judgement (Err halts.Unread) = ⊥
Judges judgement (Err (halts.Refused refusal)) = judgement.refused_for refusal
Judges judgement (Err halts.Memory) = Unit {0}
