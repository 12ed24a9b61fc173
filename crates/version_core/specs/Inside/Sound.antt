-- What every core keeps, event by event, so that its history is one. It stands inside; what holds of a core for those
-- who call it is OneHistory.
use Rattle.std.specs.Prelude.{ℕ, ◌≡◌, ◌≤◌, ◌+◌, List, Some, slice_get, length, take}
use Rattle.history.specs.declared.entry.Entry.{Entry}
use Rattle.history.specs.declared.effect.Effect.{Effect}
use Rattle.history.specs.declared.effect.Effect.TheVariants.{Commit}
use Rattle.history.specs.Version.{version, NoneFrom}
use Rattle.history.specs.UserRun.{RunSoFar}
use Rattle.history.specs.LegalHistory.{HasUsers}
use Rattle.version_core.specs.declared.user.Tried.{Tried}
use Rattle.version_core.specs.CoreState.{CoreState, UserState, KeptValue, next_command}
use Rattle.version_core.specs.OneHistory.{IsKeptSound}

-- the user pins this version: a command waits, and all replies are the user's run of the pinned version's history,
-- after which the user has no entry
pub record IsPinSound {C K T R : Type 0} (effect : C → K → Effect T R) (after : C → T → C) (first : C)
    (log : List (Entry T)) (number : ℕ) (user : UserState K T R) (place : ℕ) : Type 0 where
  pub within : place ≤ length log
  pub command : K
  pub is_next : next_command user ≡ Some command
  pub run : RunSoFar effect after first (take place log) number user.told user.commands
  pub none_since : NoneFrom log place number

-- the user's try is what its next command commits on the pinned version
pub record IsTrySound {C K T R : Type 0} (effect : C → K → Effect T R) (after : C → T → C) (first : C)
    (log : List (Entry T)) (user : UserState K T R) (tried : Tried T R) : Type 0 where
  pub place : ℕ
  pub command : K
  pub is_pin : user.pin ≡ Some place
  pub is_next : next_command user ≡ Some command
  pub is_accepted : effect (version after first log place) command ≡ Commit tried.writes tried.reply

pub record IsUserSound {C K T R : Type 0} (effect : C → K → Effect T R) (after : C → T → C) (first : C)
    (log : List (Entry T)) (number : ℕ) (user : UserState K T R) : Type 0 where
  pub run : RunSoFar effect after first log number user.told user.commands
  pub pin : (place : ℕ) → user.pin ≡ Some place → IsPinSound effect after first log number user place
  pub tried : (tried : Tried T R) → user.tried ≡ Some tried → IsTrySound effect after first log user tried

pub record IsSound {C K T R V : Type 0} (effect : C → K → Effect T R) (after : C → T → C) (value : C → ℕ → V)
    (core : CoreState C K T R V) : Type 0 where
  pub known : HasUsers (length core.users) core.log
  pub users : (index : ℕ) (user : UserState K T R) → slice_get core.users index ≡ Some user
      → IsUserSound effect after core.first core.log (index + 1) user
  pub kept : (i : ℕ) (kept : KeptValue V) → slice_get core.memo i ≡ Some kept
      → IsKeptSound after value core.first core.log kept
