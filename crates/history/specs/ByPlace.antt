-- A user's run, read place by place. It is what `UserRun` says by going along the list of replies.
use Rattle.std.specs.Prelude.{ℕ, ◌≡◌, ◌+◌, ◌≤◌, List, Some, slice_get, length}
use Rattle.history.specs.declared.entry.Entry.{Entry}
use Rattle.history.specs.declared.told.Told.{Told}
use Rattle.history.specs.declared.effect.Effect.{Effect}
use Rattle.history.specs.declared.effect.Effect.TheVariants.{Commit}
use Rattle.history.specs.Version.{version}
use Rattle.history.specs.UserRun.{reply_of, least_after}

-- the entry is the accepted command of this user whose reply has its place
pub record IsToldEntry {C K T R : Type 0} (effect : C → K → Effect T R) (after : C → T → C) (first : C)
    (log : List (Entry T)) (told : List (Told R)) (commands : List K) (entry : Entry T) (place : ℕ) : Type 0 where
  pub index : ℕ
  pub answer : Told R
  pub command : K
  pub reply : R
  pub is_answer : slice_get told index ≡ Some answer
  pub is_command : slice_get commands index ≡ Some command
  pub is_place : answer.place ≡ place
  pub is_accepted : effect (version after first log place) command ≡ Commit entry.writes reply

pub record IsRunByPlace {C K T R : Type 0} (effect : C → K → Effect T R) (after : C → T → C) (first : C)
    (log : List (Entry T)) (user : ℕ) (told : List (Told R)) (commands : List K) : Type 0 where
  -- each command has one reply, with one place
  pub all : length told ≡ length commands
  -- each place is the number of a version
  pub within : (i : ℕ) (answer : Told R) → slice_get told i ≡ Some answer → answer.place ≤ length log
  -- each reply is that of the command's effect on the version of its place
  pub replies : (i : ℕ) (answer : Told R) (command : K)
      → slice_get told i ≡ Some answer → slice_get commands i ≡ Some command
      → answer.reply ≡ reply_of (effect (version after first log answer.place) command)
  -- each accepted command is the entry at its place
  pub entries : (i : ℕ) (answer : Told R) (command : K) (writes : T) (reply : R)
      → slice_get told i ≡ Some answer → slice_get commands i ≡ Some command
      → effect (version after first log answer.place) command ≡ Commit writes reply
      → slice_get log answer.place ≡ Some (record { user = user; command = i + 1; writes = writes })
  -- the places never fall, and rise over an accepted command
  pub order : (i : ℕ) (answer next : Told R) (command : K)
      → slice_get told i ≡ Some answer → slice_get told (i + 1) ≡ Some next → slice_get commands i ≡ Some command
      → least_after (effect (version after first log answer.place) command) answer.place ≤ next.place
  -- the history has no other entry of the user
  pub others : (place : ℕ) (entry : Entry T) → slice_get log place ≡ Some entry → entry.user ≡ user
      → IsToldEntry effect after first log told commands entry place
