-- How a core is kept in memory.
use Rattle.std.specs.Prelude.{ℕ, ◌≡◌, ◌+◌, ◌<◌, ◌^◌, List, Some, slice_get, length, map}
use Rattle.history.specs.declared.entry.Entry.{Entry}
use Rattle.history.specs.declared.effect.Effect.{Effect}
use Rattle.history.specs.Version.{version}
use Rattle.version_core.specs.declared.known.Known.{Known}
use Rattle.version_core.specs.CoreState.{CoreState, UserState, KeptValue}
use Rattle.version_core.specs.Inside.Sound.{IsSound}

-- what a version and a cell mean: the cell's value on that version
abbrev pub kept_value : {C T V : Type 0} → (C → T → C) → (C → ℕ → V) → C → List (Entry T) → Known → KeptValue V
kept_value after value first log known = record {
  version = known.version;
  cell = known.cell;
  value = value (version after first log known.version) known.cell;
}

abbrev pub core_of : {C K T R V : Type 0} → (C → T → C) → (C → ℕ → V) → C → List (Entry T) → List Known
    → List (UserState K T R) → CoreState C K T R V
core_of after value first log memo users =
    record { first = first; log = log; memo = map (kept_value after value first log) memo; users = users }

-- the core is sound, a state of each version is kept, and a command's number fits 32 bits
pub record IsStored {S C K T R V : Type 0} (content : S → C) (effect : C → K → Effect T R) (after : C → T → C)
    (value : C → ℕ → V) (core : CoreState C K T R V) (versions : List S) : Type 0 where
  pub sound : IsSound effect after value core
  pub all : length versions ≡ length core.log + 1
  pub are_versions : (place : ℕ) (state : S) → slice_get versions place ≡ Some state
      → content state ≡ version after core.first core.log place
  pub few : (index : ℕ) (user : UserState K T R) → slice_get core.users index ≡ Some user
      → length user.commands < 2 ^ 32
