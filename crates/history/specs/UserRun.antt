-- One user's commands against a history: which replies the user may have, and which entries are the user's.
-- Everywhere `effect` is what a command does on a content; `after` and `first` are those of Version.
use Rattle.std.specs.Prelude.{ℕ, ◌≡◌, ◌+◌, ◌≤◌, List, [], ◌∷◌, Some, slice_get, length}
use Rattle.history.specs.declared.entry.Entry.{Entry}
use Rattle.history.specs.declared.told.Told.{Told}
use Rattle.history.specs.declared.effect.Effect.{Effect}
use Rattle.history.specs.declared.effect.Effect.TheVariants.{Commit, Rejected, Read}
use Rattle.history.specs.Version.{version, NoneFrom, NoneWithin}

-- the reply that an effect has
abbrev pub reply_of : {T R : Type 0} → Effect T R → R
reply_of (Commit writes reply) = reply
reply_of (Rejected reply) = reply
reply_of (Read reply) = reply

-- where the user's next reply may stand at the earliest: past the entry of this one, if it has one
abbrev pub least_after : {T R : Type 0} → Effect T R → ℕ → ℕ
least_after (Commit writes reply) place = place + 1
least_after (Rejected reply) place = place
least_after (Read reply) place = place

-- an accepted command is the entry at its place; any other command has no entry, and its place is a version's number
abbrev pub Stands : {T R : Type 0} → Effect T R → List (Entry T) → ℕ → ℕ → ℕ → Type 0
Stands (Commit writes reply) log place user number =
    slice_get log place ≡ Some (record { user = user; command = number; writes = writes })
Stands (Rejected reply) log place user number = place ≤ length log
Stands (Read reply) log place user number = place ≤ length log

-- The user's commands from `number` on, of which the first were told this, at places from `least` on: each reply is
-- that of the command's effect on the version of its place, an accepted command stands there as an entry, the places
-- never fall and rise over an entry, and the history has no other entry of the user from `least` on.
abbrev pub ToldFrom : {C K T R : Type 0} → (C → K → Effect T R) → (C → T → C) → C
    → List (Entry T) → ℕ → ℕ → ℕ → List (Told R) → List K → Type 0
ToldFrom effect after first log user number least [] commands = (least ≤ length log) × NoneFrom log least user
ToldFrom effect after first log user number least (told ∷ more) [] = ⊥
ToldFrom effect after first log user number least (told ∷ more) (command ∷ commands) =
    let found = effect (version after first log told.place) command in
    (least ≤ told.place)
    × NoneWithin log least told.place user
    × (told.reply ≡ reply_of found)
    × Stands found log told.place user number
    × ToldFrom effect after first log user (number + 1) (least_after found told.place) more commands

-- the user's first commands were told this, and the history has no other entry of the user; commands may be left
abbrev pub RunSoFar : {C K T R : Type 0} → (C → K → Effect T R) → (C → T → C) → C
    → List (Entry T) → ℕ → List (Told R) → List K → Type 0
RunSoFar effect after first log user told commands = ToldFrom effect after first log user 1 0 told commands

-- the same, and no command is left
abbrev pub UserRun : {C K T R : Type 0} → (C → K → Effect T R) → (C → T → C) → C
    → List (Entry T) → ℕ → List (Told R) → List K → Type 0
UserRun effect after first log user told commands =
    (length told ≡ length commands) × RunSoFar effect after first log user told commands
