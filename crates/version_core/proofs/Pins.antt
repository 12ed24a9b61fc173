-- Over whole runs: a user's pin is the length that the history had at the user's last Pin, and replies are told there.
use Rattle.std.proofs.Common.{◌≡◌, ◌≢◌, ℕ, ◌+◌, ◌==◌, Bool, true, false, List, [], ◌∷◌, ◌++◌, length, Option, Some, None, refl, ap, sym, ◌∙◌, subst, ◌⊎◌, inl, inr, append_assoc}
use Rattle.std.specs.Option.{option_map}
use Rattle.std.specs.Prelude.{if◌then◌else◌, unwrap_or}
use Rattle.std.proofs.lemmas.List.{append-nil}
use Rattle.history.specs.declared.told.Told.{Told}
use Rattle.history.specs.declared.effect.Effect.{Effect}
use Rattle.history.specs.declared.effect.Effect.TheVariants.{Commit, Rejected, Read}
use Rattle.history.specs.Version.{version}
use Rattle.history.proofs.Lists.{get_split}
use Rattle.version_core.specs.declared.user.Tried.{Tried}
use Rattle.version_core.specs.declared.event.Event.{Event}
use Rattle.version_core.specs.declared.event.Event.TheVariants as kind
use Rattle.version_core.specs.CoreState.{UserState, CoreState, start, new_user, next_command, user_at, set_user, with_user, given}
use Rattle.version_core.specs.Events.{pinned, unpinned, answered, after_try, has_kept, with_kept, pin_by, try_by, commit_by, read_by, keep_by, unpin_by, event_after}
use Rattle.version_core.specs.Inside.Sound.{IsSound}
use Rattle.version_core.specs.Acts.{Act, Give, Happen, act_after, acts_after, IsLastPin, TellsAtLastPin}
use Rattle.lists.proofs.Found.{none_some, some_same, and_then_found, mapped}
use Rattle.version_core.proofs.Finding.{get_replicate, user_index, user_set}
use Rattle.version_core.proofs.Cores.{start_sound, user_sound, give_sound, event_sound, same_core, only_one}

-- what one act does to the pin and the told list of the user of this number
data Change {K T R : Type 0} (act : Act K) (number newest : ℕ) (user next : UserState K T R) : Type 0 where
  Stays : act ≢ Happen (kind.Pin number) → next.told ≡ user.told → next.pin ≡ user.pin → Change act number newest user next
  Pins : act ≡ Happen (kind.Pin number) → next.told ≡ user.told → next.pin ≡ Some newest → Change act number newest user next
  Ends : next.told ≡ user.told → next.pin ≡ None → Change act number newest user next
  Answers : (told : Told R) → user.pin ≡ Some told.place → next.told ≡ user.told ++ told ∷ [] → next.pin ≡ None → Change act number newest user next

same_pin : {m n : ℕ} → kind.Pin m ≡ kind.Pin n → m ≡ n
same_pin is = cc

module _ {C K T R V : Type 0} (effect : C → K → Effect T R) (after : C → T → C) (value : C → ℕ → V) where
  -- the user of this number was there before the act, and changed by it in one of these ways
  record WasChanged (core : CoreState C K T R V) (act : Act K) (number : ℕ) (next : UserState K T R) : Type 0 where
    user : UserState K T R
    is_user : user_at core.users number ≡ Some user
    change : Change act number (length core.log) user next

  same_act : (e f : Event) → ◌≡◌ {A = Act K} (Happen e) (Happen f) → e ≡ f
  same_act e f is = cc

  untouched : (core : CoreState C K T R V) (act : Act K) (number : ℕ) (next : UserState K T R) → act ≢ Happen (kind.Pin number)
      → user_at core.users number ≡ Some next → WasChanged core act number next
  untouched core act number next other is = record { user = next; is_user = is; change = Stays other refl refl }

  -- where only the user of one number is written
  written : (core : CoreState C K T R V) (act : Act K) (writer : ℕ) (user now : UserState K T R) (number : ℕ) (next : UserState K T R)
      → user_at core.users writer ≡ Some user → user_at (set_user core.users writer now) number ≡ Some next
      → (number ≢ writer → act ≢ Happen (kind.Pin number))
      → (number ≡ writer → Change act number (length core.log) user now)
      → WasChanged core act number next
  written core act writer user now number next at is other own =
      elim (user_set core.users writer now number next is) [
        | inl here ↦ record {
          user = user;
          is_user = ap (λ (n : ℕ). user_at core.users n) here.0 ∙ at;
          change = subst (λ (u : UserState K T R). Change act number (length core.log) user u) (sym here.1) (own here.0);
        }
        | inr there ↦ untouched core act number next (other there.0) there.1
      ]

  after_try_changed : (core : CoreState C K T R V) (writer : ℕ) (user : UserState K T R) (place number : ℕ) → user.pin ≡ Some place → (found : Effect T R)
      → Change (Happen (kind.Try writer)) number (length core.log) user (after_try user place found)
  after_try_changed core writer user place number pin (Commit writes reply) = Stays (λ e. cc) refl refl
  after_try_changed core writer user place number pin (Rejected reply) = Answers (record { place = place; reply = reply }) pin refl refl
  after_try_changed core writer user place number pin (Read reply) = Answers (record { place = place; reply = reply }) pin refl refl

  tried_changed : (core done : CoreState C K T R V) (writer : ℕ) (user : UserState K T R) (pin : Option ℕ) (tried : Option (Tried T R)) (command : Option K)
      (number : ℕ) (next : UserState K T R) → user_at core.users writer ≡ Some user → user.pin ≡ pin
      → try_by effect after core writer user pin tried command ≡ Some done → user_at done.users number ≡ Some next → WasChanged core (Happen (kind.Try writer)) number next
  tried_changed core done writer user (Some place) None (Some command) number next found pin is at =
      let now = after_try user place (effect (version after core.first core.log place) command) in
      let same : with_user core writer now ≡ done = some_same is in
      let at' : user_at (set_user core.users writer now) number ≡ Some next = rw (sym same) at at in
      written core (Happen (kind.Try writer)) writer user now number next found at' (λ other e. cc)
      (λ own. after_try_changed core writer user place number pin (effect (version after core.first core.log place) command))
  tried_changed core done writer user (Some place) None None number next found pin is at = absurd (none_some is)
  tried_changed core done writer user (Some place) (Some tried) command number next found pin is at = absurd (none_some is)
  tried_changed core done writer user None tried command number next found pin is at = absurd (none_some is)

  committed_changed : (core done : CoreState C K T R V) (writer : ℕ) (user : UserState K T R) (pin : Option ℕ) (tried : Option (Tried T R))
      (number : ℕ) (next : UserState K T R) → user_at core.users writer ≡ Some user → user.pin ≡ pin
      → commit_by core writer user pin tried ≡ Some done → user_at done.users number ≡ Some next → WasChanged core (Happen (kind.Commit writer)) number next
  committed_changed core done writer user (Some place) (Some tried) number next found pin is at = newest (place == length core.log) is
    where
      now : UserState K T R
      now = answered user place tried.reply

      whole : CoreState C K T R V
      whole = record (with_user core writer now) { log = core.log ++ record { user = writer; command = length user.told + 1; writes = tried.writes } ∷ [] }

      newest : (b : Bool) → (if b then Some whole else None) ≡ Some done → WasChanged core (Happen (kind.Commit writer)) number next
      newest false found_is = absurd (none_some found_is)
      newest true found_is =
          let same : whole ≡ done = some_same found_is in
          let at' : user_at (set_user core.users writer now) number ≡ Some next = rw (sym same) at at in
          written core (Happen (kind.Commit writer)) writer user now number next found at' (λ other e. cc)
          (λ own. Answers (record { place = place; reply = tried.reply }) pin refl refl)
  committed_changed core done writer user (Some place) None number next found pin is at = absurd (none_some is)
  committed_changed core done writer user None tried number next found pin is at = absurd (none_some is)

  event_changed : (core after_event : CoreState C K T R V) (event : Event) (number : ℕ) (next : UserState K T R)
      → event_after effect after value core event ≡ Some after_event → user_at after_event.users number ≡ Some next
      → WasChanged core (Happen event) number next
  event_changed core done (kind.Pin writer) number next is at =
      let user = and_then_found (λ user. pin_by core writer user) (user_at core.users writer) done is in
      let command = mapped (λ command. with_user core writer (pinned user.0 (length core.log))) (next_command user.0) done user.2 in
      let at' : user_at (set_user core.users writer (pinned user.0 (length core.log))) number ≡ Some next = rw (sym command.2) at at in
      written core (Happen (kind.Pin writer)) writer user.0 (pinned user.0 (length core.log)) number next user.1 at'
      (λ other same. other (sym (same_pin (same_act (kind.Pin writer) (kind.Pin number) same))))
      (λ own. Pins (ap (λ (n : ℕ). Happen (kind.Pin n)) (sym own)) refl refl)
  event_changed core done (kind.Try writer) number next is at =
      let user = and_then_found (λ user. try_by effect after core writer user user.pin user.tried (next_command user)) (user_at core.users writer) done is in
      tried_changed core done writer user.0 user.0.pin user.0.tried (next_command user.0) number next user.1 refl user.2 at
  event_changed core done (kind.Commit writer) number next is at =
      let user = and_then_found (λ user. commit_by core writer user user.pin user.tried) (user_at core.users writer) done is in
      committed_changed core done writer user.0 user.0.pin user.0.tried number next user.1 refl user.2 at
  event_changed core done (kind.Read writer cell) number next is at =
      let user = and_then_found (λ user. read_by core user cell) (user_at core.users writer) done is in
      let place = and_then_found (λ place. if has_kept core.memo place cell then Some core else None) user.0.pin done user.2 in
      let same : core ≡ done = same_core effect after value core done (has_kept core.memo place.0 cell) place.2 in
      untouched core (Happen (kind.Read writer cell)) number next (λ e. cc) (rw same at)
  event_changed core done (kind.Keep writer cell) number next is at =
      let user = and_then_found (λ user. keep_by after value core user cell) (user_at core.users writer) done is in
      let place = mapped (λ place. record core { memo = with_kept core.memo place cell (value (version after core.first core.log place) cell) }) user.0.pin done user.2 in
      let at' : user_at core.users number ≡ Some next = rw (sym place.2) at at in
      untouched core (Happen (kind.Keep writer cell)) number next (λ e. cc) at'
  event_changed core done (kind.Unpin writer) number next is at =
      let user = and_then_found (λ user. unpin_by core writer user) (user_at core.users writer) done is in
      let place = mapped (λ place. with_user core writer (unpinned user.0)) user.0.pin done user.2 in
      let at' : user_at (set_user core.users writer (unpinned user.0)) number ≡ Some next = rw (sym place.2) at at in
      written core (Happen (kind.Unpin writer)) writer user.0 (unpinned user.0) number next user.1 at' (λ other e. cc) (λ own. Ends refl refl)

  -- ## Acts

  give_changed : (core : CoreState C K T R V) (writer : ℕ) (command : K) (found : Option (UserState K T R)) → user_at core.users writer ≡ found
      → (number : ℕ) (next : UserState K T R)
      → user_at (unwrap_or (option_map (λ user. with_user core writer (given user command)) found) core).users number ≡ Some next
      → WasChanged core (Give writer command) number next
  give_changed core writer command None found number next at = untouched core (Give writer command) number next (λ e. cc) at
  give_changed core writer command (Some user) found number next at =
      written core (Give writer command) writer user (given user command) number next found at (λ other e. cc) (λ own. Stays (λ e. cc) refl refl)

  pin_enabled : (core : CoreState C K T R V) (number : ℕ) (user : UserState K T R) (command : K) → user_at core.users number ≡ Some user
      → next_command user ≡ Some command → event_after effect after value core (kind.Pin number) ≡ Some (with_user core number (pinned user (length core.log)))
  pin_enabled core number user command found waits = rw (found, waits) refl

  -- an event that is not enabled is no Pin of a user who has a pin
  idle_changed : (core : CoreState C K T R V) (event : Event) (number : ℕ) (next : UserState K T R) → IsSound effect after value core
      → event_after effect after value core event ≡ None → user_at core.users number ≡ Some next
      → (pin : Option ℕ) → next.pin ≡ pin → WasChanged core (Happen event) number next
  idle_changed core event number next sound idle at None pin = record { user = next; is_user = at; change = Ends refl pin }
  idle_changed core event number next sound idle at (Some place) pin =
      let p = (user_sound effect after value core number next sound at).pin place pin in
      let other : Happen event ≢ Happen (kind.Pin number) =
      λ same.
      let is_pin : event ≡ kind.Pin number = same_act event (kind.Pin number) same in
      none_some (sym (rw is_pin at idle) ∙ pin_enabled core number next p.command at p.is_next) in
      untouched core (Happen event) number next other at

  happen_changed : (core : CoreState C K T R V) (event : Event) (done : Option (CoreState C K T R V)) → IsSound effect after value core
      → event_after effect after value core event ≡ done → (number : ℕ) (next : UserState K T R)
      → user_at (unwrap_or done core).users number ≡ Some next → WasChanged core (Happen event) number next
  happen_changed core event None sound is number next at = idle_changed core event number next sound is at next.pin refl
  happen_changed core event (Some done) sound is number next at = event_changed core done event number next is at

  act_changed : (core : CoreState C K T R V) (act : Act K) (number : ℕ) (next : UserState K T R) → IsSound effect after value core
      → user_at (act_after effect after value core act).users number ≡ Some next → WasChanged core act number next
  act_changed core (Give writer command) number next sound at = give_changed core writer command (user_at core.users writer) refl number next at
  act_changed core (Happen event) number next sound at = happen_changed core event (event_after effect after value core event) sound refl number next at

  give_keeps : (core : CoreState C K T R V) (writer : ℕ) (command : K) (found : Option (UserState K T R)) → IsSound effect after value core
      → user_at core.users writer ≡ found → IsSound effect after value (unwrap_or (option_map (λ user. with_user core writer (given user command)) found) core)
  give_keeps core writer command None sound found = sound
  give_keeps core writer command (Some user) sound found = give_sound effect after value core writer user command sound found

  happen_keeps : (core : CoreState C K T R V) (event : Event) (done : Option (CoreState C K T R V)) → IsSound effect after value core
      → event_after effect after value core event ≡ done → IsSound effect after value (unwrap_or done core)
  happen_keeps core event None sound is = sound
  happen_keeps core event (Some done) sound is = event_sound effect after value core done event sound is

  pub act_keeps : (core : CoreState C K T R V) (act : Act K) → IsSound effect after value core → IsSound effect after value (act_after effect after value core act)
  act_keeps core (Give writer command) sound = give_keeps core writer command (user_at core.users writer) sound refl
  act_keeps core (Happen event) sound = happen_keeps core event (event_after effect after value core event) sound refl

  pub acts_keep : (core : CoreState C K T R V) (acts : List (Act K)) → IsSound effect after value core → IsSound effect after value (acts_after effect after value core acts)
  acts_keep core [] sound = sound
  acts_keep core (act ∷ acts) sound = acts_keep (act_after effect after value core act) acts (act_keeps core act sound)

  -- ## Pins over whole runs

  module _ (opening : CoreState C K T R V) where
    abbrev core_after : List (Act K) → CoreState C K T R V
    core_after acts = acts_after effect after value opening acts

    pub acts_after-append : (core : CoreState C K T R V) (acts : List (Act K)) (act : Act K)
        → acts_after effect after value core (acts ++ act ∷ []) ≡ act_after effect after value (acts_after effect after value core acts) act
    acts_after-append core [] act = refl
    acts_after-append core (first ∷ acts) act = acts_after-append (act_after effect after value core first) acts act

    -- each user's pin is the length that the history had at the user's last Pin
    abbrev PinsKnown : List (Act K) → Type 0
    PinsKnown acts =
        (number : ℕ) (user : UserState K T R) (place : ℕ) → user_at (core_after acts).users number ≡ Some user → user.pin ≡ Some place
        → IsLastPin effect after value opening acts number place

    last_pin_more : (acts : List (Act K)) (act : Act K) (number place : ℕ) → act ≢ Happen (kind.Pin number)
        → IsLastPin effect after value opening acts number place → IsLastPin effect after value opening (acts ++ act ∷ []) number place
    last_pin_more acts act number place other last = record {
      before = last.before;
      since = last.since ++ act ∷ [];
      is_pin = ap (λ (xs : List (Act K)). xs ++ act ∷ []) last.is_pin ∙ append_assoc last.before (Happen (kind.Pin number) ∷ last.since) (act ∷ []);
      no_other = λ i is.
          elim (get_split last.since (act ∷ []) i (Happen (kind.Pin number)) is) [
            | inl old ↦ last.no_other i old
            | inr new ↦ other (only_one act (Happen (kind.Pin number)) new.0 new.2)
          ];
      is_length = last.is_length;
    }

    last_pin_now : (acts : List (Act K)) (act : Act K) (number place : ℕ) → act ≡ Happen (kind.Pin number) → place ≡ length (core_after acts).log
        → IsLastPin effect after value opening (acts ++ act ∷ []) number place
    last_pin_now acts act number place is_pin here = record {
      before = acts;
      since = [];
      is_pin = ap (λ (a : Act K). acts ++ a ∷ []) is_pin;
      no_other = λ i is. none_some is;
      is_length = here;
    }

    pins_step : (acts : List (Act K)) (act : Act K) → IsSound effect after value (core_after acts) → PinsKnown acts → PinsKnown (acts ++ act ∷ [])
    pins_step acts act sound known number next place at pin =
        let at' : user_at (act_after effect after value (core_after acts) act).users number ≡ Some next = rw (acts_after-append opening acts act) at at in
        let was = act_changed (core_after acts) act number next sound at' in
        by_change was.user was.is_user was.change
      where
        by_change : (user : UserState K T R) → user_at (core_after acts).users number ≡ Some user → Change act number (length (core_after acts).log) user next
            → IsLastPin effect after value opening (acts ++ act ∷ []) number place
        by_change user is_user (Stays other told same) = last_pin_more acts act number place other (known number user place is_user (sym same ∙ pin))
        by_change user is_user (Pins is_pin told now) = last_pin_now acts act number place is_pin (some_same (sym pin ∙ now))
        by_change user is_user (Ends told none) = absurd (none_some (sym none ∙ pin))
        by_change user is_user (Answers one here told none) = absurd (none_some (sym none ∙ pin))

    pins_on : (acts before : List (Act K)) → IsSound effect after value (core_after before) → PinsKnown before → PinsKnown (before ++ acts)
    pins_on [] before sound known = rw (append-nil before) known
    pins_on (act ∷ acts) before sound known =
        let sound' : IsSound effect after value (core_after (before ++ act ∷ [])) = rw (acts_after-append opening before act) (act_keeps (core_after before) act sound) in
        rw (sym (append_assoc before (act ∷ []) acts)) (pins_on acts (before ++ act ∷ []) sound' (pins_step before act sound known))

    -- what an act tells a user is told at the user's last Pin
    tells : (acts : List (Act K)) (act : Act K) (number : ℕ) → IsSound effect after value (core_after acts) → PinsKnown acts
        → TellsAtLastPin effect after value opening acts act number
    tells acts act number sound known user next is_user at =
        let was = act_changed (core_after acts) act number next sound at in
        let same : was.user ≡ user = some_same (sym was.is_user ∙ is_user) in
        by_change (rw same at was.change)
      where
        by_change : Change act number (length (core_after acts).log) user next
            → (next.told ≡ user.told) ⊎ ((told : Told R) × (next.told ≡ user.told ++ told ∷ []) × IsLastPin effect after value opening acts number told.place)
        by_change (Stays other told same) = inl told
        by_change (Pins is_pin told now) = inl told
        by_change (Ends told none) = inl told
        by_change (Answers one here told none) = inr (one, told, known number user one.place is_user here)

  -- no user has a pin at the start
  no_pins : (first : C) (count : ℕ) → PinsKnown (start first count) []
  no_pins first count number user place at pin =
      let found = user_index (start {K = K} {T = T} {R = R} {V = V} first count).users number user at in
      let same : user ≡ new_user = get_replicate count new_user found.0 user found.2 in
      absurd (none_some (sym (ap (λ (u : UserState K T R). u.pin) same) ∙ pin))

  pub tells_from_start : (first : C) (count : ℕ) (acts : List (Act K)) (act : Act K) (number : ℕ)
      → TellsAtLastPin {T = T} {R = R} effect after value (start first count) acts act number
  tells_from_start first count acts act number =
      let sound = start_sound effect after value first count in
      tells (start first count) acts act number (acts_keep (start first count) acts sound) (pins_on (start first count) acts [] sound (no_pins first count))
