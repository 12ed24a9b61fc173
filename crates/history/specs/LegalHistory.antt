-- Histories as a whole, over the commands of all users: `users` has the list of each user's commands. The user at index
-- i has the number i + 1, and a user's commands count from 1.
use Rattle.std.specs.Prelude.{ℕ, ◌≡◌, ◌+◌, ◌≤◌, List, Some, slice_get, length}
use Rattle.history.specs.declared.entry.Entry.{Entry}
use Rattle.history.specs.declared.told.Told.{Told}
use Rattle.history.specs.declared.effect.Effect.{Effect}
use Rattle.history.specs.declared.effect.Effect.TheVariants.{Commit}
use Rattle.history.specs.Version.{version}
use Rattle.history.specs.UserRun.{RunSoFar, UserRun}

-- the entry at this place is a command of its user, which is accepted on the version of its place, with its writes
pub record IsLegalAt {C K T R : Type 0} (effect : C → K → Effect T R) (after : C → T → C) (first : C)
    (users : List (List K)) (log : List (Entry T)) (place : ℕ) (entry : Entry T) : Type 0 where
  pub index : ℕ
  pub commands : List K
  pub before : ℕ
  pub command : K
  pub reply : R
  pub is_user : entry.user ≡ index + 1
  pub are_commands : slice_get users index ≡ Some commands
  pub is_number : entry.command ≡ before + 1
  pub is_command : slice_get commands before ≡ Some command
  pub is_accepted : effect (version after first log place) command ≡ Commit entry.writes reply

-- each entry is an accepted command of its user
abbrev pub IsLegal : {C K T R : Type 0} → (C → K → Effect T R) → (C → T → C) → C
    → List (List K) → List (Entry T) → Type 0
IsLegal {T = T} effect after first users log =
    (place : ℕ) (entry : Entry T) → slice_get log place ≡ Some entry
    → IsLegalAt effect after first users log place entry

-- each entry is one of these users'
abbrev pub HasUsers : {T : Type 0} → ℕ → List (Entry T) → Type 0
HasUsers {T} count log =
    (place : ℕ) (entry : Entry T) → slice_get log place ≡ Some entry → (1 ≤ entry.user) × (entry.user ≤ count)

-- each user has the replies so far: those to the first commands
abbrev pub EachRunSoFar : {C K T R : Type 0} → (C → K → Effect T R) → (C → T → C) → C
    → List (List K) → List (List (Told R)) → List (Entry T) → Type 0
EachRunSoFar {K = K} {R = R} effect after first users told log =
    (index : ℕ) (commands : List K) (replies : List (Told R)) → slice_get users index ≡ Some commands
    → slice_get told index ≡ Some replies → RunSoFar effect after first log (index + 1) replies commands

-- each user has the replies to all its commands
abbrev pub EachRun : {C K T R : Type 0} → (C → K → Effect T R) → (C → T → C) → C
    → List (List K) → List (List (Told R)) → List (Entry T) → Type 0
EachRun {K = K} {R = R} effect after first users told log =
    (index : ℕ) (commands : List K) (replies : List (Told R)) → slice_get users index ≡ Some commands
    → slice_get told index ≡ Some replies → UserRun effect after first log (index + 1) replies commands

-- the one history of all users: it is legal, and the replies to each user are that user's run of it
pub record IsHistoryOf {C K T R : Type 0} (effect : C → K → Effect T R) (after : C → T → C) (first : C)
    (users : List (List K)) (told : List (List (Told R))) (log : List (Entry T)) : Type 0 where
  pub legal : IsLegal effect after first users log
  pub all : length told ≡ length users
  pub runs : EachRun effect after first users told log
