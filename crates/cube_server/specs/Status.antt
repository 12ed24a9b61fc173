-- The ends of a run.
use Rattle.std.specs.Prelude.{◌≡◌, ℕ, List, [], ◌∷◌, ◌⊎◌}
use Rattle.cube_server.specs.declared.status.Status.{Status}
use Rattle.cube_server.specs.declared.status.Status.TheVariants.{Done, Usage, Refused, ReadFault, WriteFault, NoMemory}

-- the number that the program ends with
abbrev pub code_of : Status → ℕ
code_of Done = 0
code_of Usage = 1
code_of Refused = 2
code_of ReadFault = 3
code_of WriteFault = 4
code_of NoMemory = 5

-- the status is one of these
abbrev pub IsOneOf : List Status → Status → Type 0
IsOneOf [] status = ⊥
IsOneOf (s ∷ rest) status = (status ≡ s) ⊎ IsOneOf rest status

-- a read or a write failed, or memory ran out
abbrev pub IsFault : Status → Type 0
IsFault status = IsOneOf (ReadFault ∷ WriteFault ∷ NoMemory ∷ []) status

-- the status is this one, unless a read or a write failed, or memory ran out
abbrev pub IsOrFault : Status → Status → Type 0
IsOrFault wanted status = IsOneOf (wanted ∷ ReadFault ∷ WriteFault ∷ NoMemory ∷ []) status
