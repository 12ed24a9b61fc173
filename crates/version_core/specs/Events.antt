-- The events: where each is enabled, and what it does. `effect` is what a command does on a content, `after` the
-- content after writes, and `value` the value of a cell on a content.
use Rattle.std.specs.Prelude.{ℕ, ◌+◌, ◌==◌, ◌≡◌, Bool, ◌&&◌, if◌then◌else◌, MatchBool, List, [], ◌∷◌, ◌++◌, length}
use Rattle.std.specs.Prelude.{Option, Some, None, option_map, option_and_then}
use Rattle.std.specs.List.{list_any}
use Rattle.history.specs.declared.effect.Effect.{Effect}
use Rattle.history.specs.declared.effect.Effect.TheVariants.{Commit, Rejected, Read}
use Rattle.history.specs.Version.{version}
use Rattle.version_core.specs.declared.user.Tried.{Tried}
use Rattle.version_core.specs.declared.event.Event.{Event}
use Rattle.version_core.specs.declared.event.Event.TheVariants as event
use Rattle.version_core.specs.CoreState.{UserState, KeptValue, CoreState, next_command, user_at, with_user}

-- the user pins this version, and has no try
abbrev pub pinned : {K T R : Type 0} → UserState K T R → ℕ → UserState K T R
pinned user place = record user { pin = Some place; tried = None }

-- the user gives up the pin and the try
abbrev pub unpinned : {K T R : Type 0} → UserState K T R → UserState K T R
unpinned user = record user { pin = None; tried = None }

-- the user's next command is answered: this reply is given at this place, and the pin and the try end
abbrev pub answered : {K T R : Type 0} → UserState K T R → ℕ → R → UserState K T R
answered user place reply =
    record user { told = user.told ++ record { place = place; reply = reply } ∷ []; pin = None; tried = None }

-- the user's next command was tried at this place and has this effect: a commit becomes the try, and any other effect
-- answers the command
abbrev pub after_try : {K T R : Type 0} → UserState K T R → ℕ → Effect T R → UserState K T R
after_try user place (Commit writes reply) = record user { tried = Some (record { writes = writes; reply = reply }) }
after_try user place (Rejected reply) = answered user place reply
after_try user place (Read reply) = answered user place reply

-- whether the memo has the cell's value on this version
abbrev pub has_kept : {V : Type 0} → List (KeptValue V) → ℕ → ℕ → Bool
has_kept memo place cell = list_any (λ kept. (kept.version == place) && (kept.cell == cell)) memo

-- the memo with the cell's value on this version, which it may have already
abbrev pub with_kept : {V : Type 0} → List (KeptValue V) → ℕ → ℕ → V → List (KeptValue V)
with_kept memo place cell value =
    if has_kept memo place cell then memo else memo ++ record { version = place; cell = cell; value = value } ∷ []

-- Pin: enabled where the user has a next command; the pin becomes the length of the history
abbrev pub pin_by : {C K T R V : Type 0} → CoreState C K T R V → ℕ → UserState K T R → Option (CoreState C K T R V)
pin_by core number user =
    option_map (λ command. with_user core number (pinned user (length core.log))) (next_command user)

-- Try: enabled where the user has a pin and no try; the next command is tried on the pinned version
abbrev pub try_by : {C K T R V : Type 0} → (C → K → Effect T R) → (C → T → C) → CoreState C K T R V → ℕ
    → UserState K T R → Option ℕ → Option (Tried T R) → Option K → Option (CoreState C K T R V)
try_by effect after core number user (Some place) None (Some command) =
    Some (with_user core number (after_try user place (effect (version after core.first core.log place) command)))
try_by effect after core number user (Some place) None None = None
try_by effect after core number user (Some place) (Some tried) next = None
try_by effect after core number user None tried next = None

-- Commit: enabled where the user has a try and no other commit came since the pin; the command enters the history
abbrev pub commit_by : {C K T R V : Type 0} → CoreState C K T R V → ℕ → UserState K T R → Option ℕ
    → Option (Tried T R) → Option (CoreState C K T R V)
commit_by core number user (Some place) (Some tried) =
    if place == length core.log
    then Some (record (with_user core number (answered user place tried.reply)) {
      log = core.log ++ record { user = number; command = length user.told + 1; writes = tried.writes } ∷ [];
    })
    else None
commit_by core number user (Some place) None = None
commit_by core number user None tried = None

-- Read: enabled where the user has a pin and the memo the cell's value on that version; it changes nothing
abbrev pub read_by : {C K T R V : Type 0} → CoreState C K T R V → UserState K T R → ℕ → Option (CoreState C K T R V)
read_by core user cell =
    option_and_then (λ place. if has_kept core.memo place cell then Some core else None) user.pin

-- Keep: enabled where the user has a pin; the memo then has the cell's value on that version
abbrev pub keep_by : {C K T R V : Type 0} → (C → T → C) → (C → ℕ → V) → CoreState C K T R V → UserState K T R → ℕ
    → Option (CoreState C K T R V)
keep_by after value core user cell =
    option_map
    (λ place. record core {
      memo = with_kept core.memo place cell (value (version after core.first core.log place) cell);
    })
    user.pin

-- Unpin: enabled where the user has a pin; the pin and the try end
abbrev pub unpin_by : {C K T R V : Type 0} → CoreState C K T R V → ℕ → UserState K T R → Option (CoreState C K T R V)
unpin_by core number user = option_map (λ place. with_user core number (unpinned user)) user.pin

-- the core after an event, or none where the event is not enabled; no event is enabled of a user that is not there
abbrev pub event_after : {C K T R V : Type 0} → (C → K → Effect T R) → (C → T → C) → (C → ℕ → V)
    → CoreState C K T R V → Event → Option (CoreState C K T R V)
event_after effect after value core (event.Pin number) =
    option_and_then (λ user. pin_by core number user) (user_at core.users number)
event_after effect after value core (event.Try number) =
    option_and_then
    (λ user. try_by effect after core number user user.pin user.tried (next_command user))
    (user_at core.users number)
event_after effect after value core (event.Commit number) =
    option_and_then (λ user. commit_by core number user user.pin user.tried) (user_at core.users number)
event_after effect after value core (event.Read number cell) =
    option_and_then (λ user. read_by core user cell) (user_at core.users number)
event_after effect after value core (event.Keep number cell) =
    option_and_then (λ user. keep_by after value core user cell) (user_at core.users number)
event_after effect after value core (event.Unpin number) =
    option_and_then (λ user. unpin_by core number user) (user_at core.users number)

-- one step: where the event is enabled, the core is the one after it; where it is not, the core is as it was
abbrev pub IsStep : {C K T R V : Type 0} → (C → K → Effect T R) → (C → T → C) → (C → ℕ → V)
    → CoreState C K T R V → Event → CoreState C K T R V → Bool → Type 0
IsStep effect after value old event new enabled =
    MatchBool enabled
    (event_after effect after value old event ≡ Some new)
    ((event_after effect after value old event ≡ None) × (new ≡ old))

-- the events whose step takes no memory, so that it is always answered
abbrev pub TakesNoMemory : Event → Type 0
TakesNoMemory (event.Pin number) = Unit {0}
TakesNoMemory (event.Read number cell) = Unit {0}
TakesNoMemory (event.Unpin number) = Unit {0}
TakesNoMemory (event.Try number) = ⊥
TakesNoMemory (event.Commit number) = ⊥
TakesNoMemory (event.Keep number cell) = ⊥
