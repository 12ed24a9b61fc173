-- What a pin's try and a commit tell. `effect` is what a command does on a content, `after` what writes make of it, and
-- `first` is the opening content.
use Rattle.std.specs.Prelude.{◌≡◌, ℕ, ◌≤◌, ◌++◌, Bool, true, false, List, [], ◌∷◌, length}
use Rattle.history.specs.declared.entry.Entry.{Entry}
use Rattle.history.specs.declared.effect.Effect.{Effect}
use Rattle.history.specs.declared.effect.Effect.TheVariants.{Commit, Rejected, Read}
use Rattle.history.specs.Version.{content_after, version}
use Rattle.history.specs.UserRun.{reply_of}
use Rattle.version_book.specs.declared.book.TriedOf.{TriedOf}
use Rattle.version_book.specs.declared.book.Settled.{Settled}
use Rattle.version_book.specs.Lists.{GoesOn}

-- the try is the command's accepted effect on a version of the list
pub record IsTryOf {C K T R : Type 0} (effect : C → K → Effect T R) (after : C → T → C) (first : C)
    (log : List (Entry T)) (command : K) (tried : TriedOf T R) : Type 0 where
  pub writes : T
  pub reply : R
  pub within : tried.place ≤ length log
  pub is_effect : tried.effect ≡ effect (version after first log tried.place) command
  pub accepted : tried.effect ≡ Commit writes reply

-- an accepted command is the last entry of the later list; any other leaves the list as it is
abbrev pub Decides : {T R : Type 0} → Effect T R → Bool → List (Entry T) → List (Entry T) → ℕ → ℕ → Type 0
Decides (Commit writes reply) accepted log later user number =
    (accepted ≡ true) × (later ≡ log ++ record { user = user; command = number; writes = writes } ∷ [])
Decides (Rejected reply) accepted log later user number = (accepted ≡ false) × (later ≡ log)
Decides (Read reply) accepted log later user number = (accepted ≡ false) × (later ≡ log)

-- the command's effect on the newest version, which is the answer and decides
pub record SettlesAt {C K T R : Type 0} (effect : C → K → Effect T R) (after : C → T → C) (first : C)
    (log later : List (Entry T)) (user number : ℕ) (command : K) (settled : Settled R) : Type 0 where
  pub place : settled.place ≡ length log
  pub reply : settled.reply ≡ reply_of (effect (content_after after first log) command)
  pub decides : Decides (effect (content_after after first log) command) settled.accepted log later user number

-- what was seen before goes on, by entries of others, to the list on which the command's effect decides
pub record Settles {C K T R : Type 0} (effect : C → K → Effect T R) (after : C → T → C) (first : C)
    (before later : List (Entry T)) (users : List ℕ) (user number : ℕ) (command : K) (settled : Settled R)
    : Type 0 where
  pub log : List (Entry T)
  pub others : GoesOn before log users
  pub settles : SettlesAt effect after first log later user number command settled
