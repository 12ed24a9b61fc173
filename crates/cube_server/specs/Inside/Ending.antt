-- How a run ends, status by status, and what its text is made of.
use Rattle.std.specs.Prelude.{◌≡◌, ℕ, List, [], ◌⊎◌, Option, map, Vec}
use Rattle.std.specs.List.{concat}
use Rattle.std.specs.Io.KnownBytes.{Appends}
use Rattle.std.specs.declared.alloc.Global.{Global}
use Rattle.cube_outside.specs.Counts.{Rose}
use Rattle.file_passes.specs.declared.halt.Halt.{Halt}
use Rattle.file_passes.specs.declared.halt.Halt.TheVariants as halts
use Rattle.cube_server.specs.declared.status.Status.{Status}
use Rattle.cube_server.specs.declared.status.Status.TheVariants.{Done, Usage, Refused, ReadFault, WriteFault, NoMemory}
use Rattle.cube_server.specs.Answer.{IsDone, IsUsage, IsRefused, IsReadFault, AsksInTurn, Writes, WritesPart}
use Rattle.cube_server.specs.Answer.{IsRefusalText}
use Rattle.file_passes.specs.Outside.{Outside}
use Rattle.file_passes.specs.Pass.{Readings}
use Rattle.cube_server.specs.Output.{unread_text, usage_text}

-- what a run leaves behind with each status: of the files, of the bytes written, and of the failed writes
abbrev pub Ends : List (List ℕ) → Outside → Option (List ℕ) → Option (List ℕ) → ℕ → ℕ → Status → Type 0
Ends words o old new before after Done = Writes (IsDone words o) old new × (after ≡ before)
Ends words o old new before after Usage = Writes (IsUsage words o) old new × (after ≡ before)
Ends words o old new before after Refused = Writes (IsRefused words o) old new × (after ≡ before)
Ends words o old new before after ReadFault = Writes (IsReadFault words o) old new × (after ≡ before)
Ends words o old new before after WriteFault = WritesPart words o old new × Rose before after
Ends words o old new before after NoMemory =
    ((AsksInTurn words o × Appends old new []) ⊎ WritesPart words o old new) × (after ≡ before)

-- the pieces of a text
abbrev pub joined : List (Vec ℕ Global) → List ℕ
joined pieces = concat (map (λ piece. piece.items) pieces)

-- the end and the text of a run of these words that went no further over these files
abbrev pub Answers : List (List ℕ) → Readings → Halt → List ℕ → Status → List ℕ → Type 0
Answers words readings halts.NotWords missed status text = (status ≡ Usage) × (text ≡ usage_text)
Answers words readings halts.Unread missed status text = (status ≡ ReadFault) × (text ≡ unread_text missed)
Answers words readings (halts.Refused refusal) missed status text =
    (status ≡ Refused) × IsRefusalText words readings refusal text
Answers words readings halts.Memory missed status text = ⊥
