-- Whole runs of the core: any list of commands given and events, in any order.
use Rattle.std.specs.Prelude.{ℕ, ◌≡◌, ◌≢◌, List, [], ◌∷◌, ◌++◌, ◌⊎◌, length, slice_get}
use Rattle.std.specs.Prelude.{Some, option_map, unwrap_or}
use Rattle.history.specs.declared.told.Told.{Told}
use Rattle.history.specs.declared.effect.Effect.{Effect}
use Rattle.version_core.specs.declared.event.Event.{Event}
use Rattle.version_core.specs.declared.event.Event.TheVariants as event
use Rattle.version_core.specs.CoreState.{UserState, CoreState, user_at, with_user, given}
use Rattle.version_core.specs.Events.{event_after}

-- one thing that befalls the core: a command is given to the user of this number, or an event comes
pub data Act (K : Type 0) : Type 0 where
  Give : ℕ → K → Act K
  Happen : Event → Act K

-- a command for a user that is not there, and an event that is not enabled, change nothing
abbrev pub act_after : {C K T R V : Type 0} → (C → K → Effect T R) → (C → T → C) → (C → ℕ → V)
    → CoreState C K T R V → Act K → CoreState C K T R V
act_after effect after value core (Give number command) =
    unwrap_or (option_map (λ user. with_user core number (given user command)) (user_at core.users number)) core
act_after effect after value core (Happen event) = unwrap_or (event_after effect after value core event) core

-- the core after these acts, one after another
abbrev pub acts_after : {C K T R V : Type 0} → (C → K → Effect T R) → (C → T → C) → (C → ℕ → V)
    → CoreState C K T R V → List (Act K) → CoreState C K T R V
acts_after effect after value core [] = core
acts_after effect after value core (act ∷ acts) =
    acts_after effect after value (act_after effect after value core act) acts

-- the history had this length at the last Pin of this user among the acts
pub record IsLastPin {C K T R V : Type 0} (effect : C → K → Effect T R) (after : C → T → C) (value : C → ℕ → V)
    (opening : CoreState C K T R V) (acts : List (Act K)) (number place : ℕ) : Type 0 where
  pub before : List (Act K)
  pub since : List (Act K)
  pub is_pin : acts ≡ before ++ Happen (event.Pin number) ∷ since
  pub no_other : (i : ℕ) → slice_get since i ≢ Some (Happen (event.Pin number))
  pub is_length : place ≡ length (acts_after effect after value opening before).log

-- By this act after those, the user has no reply, or one, at the length that the history had at the user's
-- last Pin.
abbrev pub TellsAtLastPin : {C K T R V : Type 0} → (C → K → Effect T R) → (C → T → C) → (C → ℕ → V)
    → CoreState C K T R V → List (Act K) → Act K → ℕ → Type 0
TellsAtLastPin {K = K} {T = T} {R = R} effect after value opening acts act number =
    let core = acts_after effect after value opening acts in
    (user next : UserState K T R) → user_at core.users number ≡ Some user
    → user_at (act_after effect after value core act).users number ≡ Some next
    → (next.told ≡ user.told)
    ⊎ ((told : Told R) × (next.told ≡ user.told ++ told ∷ [])
    × IsLastPin effect after value opening acts number told.place)
