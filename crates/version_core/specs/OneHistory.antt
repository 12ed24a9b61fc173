-- What holds of the core after any acts.
use Rattle.std.specs.Prelude.{ℕ, ◌≡◌, ◌≤◌, List, Some, slice_get, length}
use Rattle.history.specs.declared.entry.Entry.{Entry}
use Rattle.history.specs.declared.effect.Effect.{Effect}
use Rattle.history.specs.Version.{version}
use Rattle.history.specs.LegalHistory.{IsLegal, EachRunSoFar}
use Rattle.version_core.specs.CoreState.{CoreState, KeptValue, commands_of, told_of}

-- the value is the cell's on its version
pub record IsKeptSound {C T V : Type 0} (after : C → T → C) (value : C → ℕ → V) (first : C) (log : List (Entry T))
    (kept : KeptValue V) : Type 0 where
  pub within : kept.version ≤ length log
  pub is_value : kept.value ≡ value (version after first log kept.version) kept.cell

-- the history is legal, each user's answered commands with their replies are that user's run of it, and each kept value
-- is the cell's value on its version
pub record IsOneHistory {C K T R V : Type 0} (effect : C → K → Effect T R) (after : C → T → C) (value : C → ℕ → V)
    (core : CoreState C K T R V) : Type 0 where
  pub legal : IsLegal effect after core.first (commands_of core.users) core.log
  pub runs : EachRunSoFar effect after core.first (commands_of core.users) (told_of core.users) core.log
  pub kept : (i : ℕ) (kept : KeptValue V) → slice_get core.memo i ≡ Some kept
      → IsKeptSound after value core.first core.log kept
