-- Each event keeps the core sound, and a sound core has one history.
use Rattle.std.proofs.Common.{◌≡◌, ℕ, ◌+◌, ◌<◌, ◌≤◌, ◌==◌, Bool, true, false, zero, suc, List, [], ◌∷◌, ◌++◌, length, Option, Some, None, refl, ap, sym, ◌∙◌, subst, arith, inl, inr, length-append}
use Rattle.std.specs.List.{slice_get}
use Rattle.std.specs.Prelude.{if◌then◌else◌}
use Rattle.std.proofs.lemmas.List.{length-map}
use Rattle.std.proofs.lemmas.Option.{slice_get-map}
use Rattle.std.proofs.lemmas.Bool.Decides.{nat_tests}
use Rattle.history.specs.declared.entry.Entry.{Entry}
use Rattle.history.specs.declared.effect.Effect.{Effect}
use Rattle.history.specs.Version.{version}
use Rattle.history.specs.LegalHistory.{HasUsers, EachRunSoFar}
use Rattle.std.proofs.lemmas.Option.{slice_get_within}
use Rattle.history.proofs.Runs.{none_in_nothing, version-append}
use Rattle.history.proofs.Histories.{runs_legal}
use Rattle.version_core.specs.declared.user.Tried.{Tried}
use Rattle.version_core.specs.declared.event.Event.{Event}
use Rattle.version_core.specs.declared.event.Event.TheVariants as event
use Rattle.version_core.specs.CoreState.{UserState, KeptValue, CoreState, start, new_user, next_command, user_at, set_user, with_user, given, commands_of, told_of}
use Rattle.version_core.specs.Events.{pinned, unpinned, answered, after_try, has_kept, with_kept, pin_by, try_by, commit_by, read_by, keep_by, unpin_by, event_after}
use Rattle.version_core.specs.Inside.Sound.{IsUserSound, IsSound}
use Rattle.version_core.specs.OneHistory.{IsKeptSound, IsOneHistory}
use Rattle.lists.proofs.Found.{none_some, some_same, and_then_found, mapped}
use Rattle.history.proofs.Lists.{get_split}
use Rattle.version_core.proofs.Finding.{get_replicate, user_index, length-set_user, get_set_user}
use Rattle.version_core.proofs.Users.{user_starts, user_pins, user_unpins, user_given, user_tries, user_commits, user_beside}

pub only_one : {A : Type 0} (x y : A) (j : ℕ) → slice_get (x ∷ []) j ≡ Some y → x ≡ y
only_one x y zero is = some_same is
only_one x y (suc j) is = absurd (none_some is)

module _ {C K T R V : Type 0} (effect : C → K → Effect T R) (after : C → T → C) (value : C → ℕ → V) where
  pub same_core : (core next : CoreState C K T R V) (b : Bool) → (if b then Some core else None) ≡ Some next → core ≡ next
  same_core core next true is = some_same is
  same_core core next false is = absurd (none_some is)

  pub start_sound : (first : C) (count : ℕ) → IsSound {R = R} effect after value (start first count)
  start_sound first count = record {
    known = λ place entry is. absurd (none_some is);
    users = λ index user is. rw (get_replicate count new_user index user is) (user_starts effect after first [] (index + 1) (none_in_nothing 0 (index + 1)));
    kept = λ i kept is. absurd (none_some is);
  }

  pub with_user_sound : (core : CoreState C K T R V) (number : ℕ) (user : UserState K T R)
      → IsSound effect after value core → IsUserSound effect after core.first core.log number user → IsSound effect after value (with_user core number user)
  with_user_sound core number user sound now = record {
    known = rw (length-set_user core.users number user) sound.known;
    users = λ index u is.
        elim (get_set_user core.users number user index u is) [
          | inl here ↦ rw (here.0, here.1) now
          | inr there ↦ sound.users index u there.1
        ];
    kept = sound.kept;
  }

  pub user_sound : (core : CoreState C K T R V) (number : ℕ) (user : UserState K T R) → IsSound effect after value core → user_at core.users number ≡ Some user
      → IsUserSound effect after core.first core.log number user
  user_sound core number user sound is =
      let at = user_index core.users number user is in
      rw at.1 (sound.users at.0 user at.2)

  pub give_sound : (core : CoreState C K T R V) (number : ℕ) (user : UserState K T R) (command : K) → IsSound effect after value core
      → user_at core.users number ≡ Some user → IsSound effect after value (with_user core number (given user command))
  give_sound core number user command sound is =
      with_user_sound core number (given user command) sound (user_given effect after core.first core.log number user command (user_sound core number user sound is))

  try_sound : (core next : CoreState C K T R V) (number : ℕ) (user : UserState K T R) (pin : Option ℕ) (tried : Option (Tried T R)) (command : Option K)
      → IsSound effect after value core → user_at core.users number ≡ Some user
      → user.pin ≡ pin → next_command user ≡ command → try_by effect after core number user pin tried command ≡ Some next → IsSound effect after value next
  try_sound core next number user (Some place) None (Some command) sound at pin waits is =
      subst (λ (c : CoreState C K T R V). IsSound effect after value c) (some_same is)
      (with_user_sound core number (after_try user place (effect (version after core.first core.log place) command)) sound
      (user_tries effect after core.first core.log number user place command (user_sound core number user sound at) pin waits (effect (version after core.first core.log place) command) refl))
  try_sound core next number user (Some place) None None sound at pin waits is = absurd (none_some is)
  try_sound core next number user (Some place) (Some tried) command sound at pin waits is = absurd (none_some is)
  try_sound core next number user None tried command sound at pin waits is = absurd (none_some is)

  kept_more : (first : C) (log : List (Entry T)) (entry : Entry T) (kept : KeptValue V) → IsKeptSound after value first log kept → IsKeptSound after value first (log ++ entry ∷ []) kept
  kept_more first log entry kept sound = record {
    within = omega (arith, sound.within, length-append log (entry ∷ []));
    is_value = rw (version-append after first log (entry ∷ []) kept.version sound.within) sound.is_value;
  }

  -- the core in which this user's try, of the newest version, has entered the history
  abbrev committed : CoreState C K T R V → ℕ → UserState K T R → ℕ → Tried T R → CoreState C K T R V
  committed core number user place tried = record {
    first = core.first;
    log = core.log ++ record { user = number; command = length user.told + 1; writes = tried.writes } ∷ [];
    memo = core.memo;
    users = set_user core.users number (answered user place tried.reply);
  }

  committed_sound : (core : CoreState C K T R V) (number : ℕ) (user : UserState K T R) (tried : Tried T R)
      → IsSound effect after value core → user_at core.users number ≡ Some user
      → user.pin ≡ Some (length core.log) → user.tried ≡ Some tried → IsSound effect after value (committed core number user (length core.log) tried)
  committed_sound core number user tried sound at pin try =
      let entry : Entry T = record { user = number; command = length user.told + 1; writes = tried.writes } in
      let place = user_index core.users number user at in
      let here = answered user (length core.log) tried.reply in
      let known : HasUsers (length core.users) (core.log ++ entry ∷ []) =
      λ p e is.
      elim (get_split core.log (entry ∷ []) p e is) [
        | inl old ↦ sound.known p e old
        | inr new ↦
            let same : entry ≡ e = only_one entry e new.0 new.2 in
            let index : place.0 < length core.users = slice_get_within core.users place.0 user place.2 in
            rw (sym same) (omega (arith, place.1, index), omega (arith, place.1, index))
      ] in
      record {
        known = rw (length-set_user core.users number here) known;
        users = λ index u is.
            elim (get_set_user core.users number here index u is) [
              | inl own ↦ rw (own.0, own.1) (user_commits effect after core.first core.log number user tried (user_sound core number user sound at) pin try)
              | inr other ↦ user_beside effect after core.first core.log (index + 1) u entry (sound.users index u other.1) (λ e. other.0 (sym e))
            ];
        kept = λ i kept is. kept_more core.first core.log entry kept (sound.kept i kept is);
      }

  commit_sound : (core next : CoreState C K T R V) (number : ℕ) (user : UserState K T R) (pin : Option ℕ) (tried : Option (Tried T R))
      → IsSound effect after value core → user_at core.users number ≡ Some user
      → user.pin ≡ pin → user.tried ≡ tried → commit_by core number user pin tried ≡ Some next → IsSound effect after value next
  commit_sound core next number user (Some place) (Some tried) sound at pin try is = newest (place == length core.log) refl is
    where
      newest : (b : Bool) → (place == length core.log) ≡ b → (if b then Some (committed core number user place tried) else None) ≡ Some next → IsSound effect after value next
      newest false test is = absurd (none_some is)
      newest true test is =
          let e : place ≡ length core.log = grind (arith, nat_tests) in
          let done : IsSound effect after value (committed core number user place tried) = rw e (committed_sound core number user tried sound at (pin ∙ ap Some e) try) in
          subst (λ (c : CoreState C K T R V). IsSound effect after value c) (some_same is) done
  commit_sound core next number user (Some place) None sound at pin try is = absurd (none_some is)
  commit_sound core next number user None tried sound at pin try is = absurd (none_some is)

  keep_sound : (core : CoreState C K T R V) (place cell : ℕ) → place ≤ length core.log → IsSound effect after value core
      → IsSound effect after value (record core { memo = with_kept core.memo place cell (value (version after core.first core.log place) cell) })
  keep_sound core place cell within sound = by_test (has_kept core.memo place cell)
    where
      one : KeptValue V
      one = record { version = place; cell = cell; value = value (version after core.first core.log place) cell }

      by_test : (b : Bool) → IsSound effect after value (record core { memo = if b then core.memo else core.memo ++ one ∷ [] })
      by_test true = record { known = sound.known; users = sound.users; kept = sound.kept }
      by_test false = record {
        known = sound.known;
        users = sound.users;
        kept = λ i kept is.
            elim (get_split core.memo (one ∷ []) i kept is) [
              | inl old ↦ sound.kept i kept old
              | inr new ↦ rw (sym (only_one one kept new.0 new.2)) (record { within = within; is_value = refl })
            ];
      }

  -- an event that is enabled keeps the core sound
  pub event_sound : (core next : CoreState C K T R V) (event : Event) → IsSound effect after value core
      → event_after effect after value core event ≡ Some next → IsSound effect after value next
  event_sound core next (event.Pin number) sound is =
      let user = and_then_found (λ user. pin_by core number user) (user_at core.users number) next is in
      let command = mapped (λ command. with_user core number (pinned user.0 (length core.log))) (next_command user.0) next user.2 in
      subst (λ (c : CoreState C K T R V). IsSound effect after value c) command.2
      (with_user_sound core number (pinned user.0 (length core.log)) sound
      (user_pins effect after core.first core.log number user.0 command.0 (user_sound core number user.0 sound user.1) command.1))
  event_sound core next (event.Try number) sound is =
      let user = and_then_found (λ user. try_by effect after core number user user.pin user.tried (next_command user)) (user_at core.users number) next is in
      try_sound core next number user.0 user.0.pin user.0.tried (next_command user.0) sound user.1 refl refl user.2
  event_sound core next (event.Commit number) sound is =
      let user = and_then_found (λ user. commit_by core number user user.pin user.tried) (user_at core.users number) next is in
      commit_sound core next number user.0 user.0.pin user.0.tried sound user.1 refl refl user.2
  event_sound core next (event.Read number cell) sound is =
      let user = and_then_found (λ user. read_by core user cell) (user_at core.users number) next is in
      let place = and_then_found (λ place. if has_kept core.memo place cell then Some core else None) user.0.pin next user.2 in
      subst (λ (c : CoreState C K T R V). IsSound effect after value c) (same_core core next (has_kept core.memo place.0 cell) place.2) sound
  event_sound core next (event.Keep number cell) sound is =
      let user = and_then_found (λ user. keep_by after value core user cell) (user_at core.users number) next is in
      let place = mapped (λ place. record core { memo = with_kept core.memo place cell (value (version after core.first core.log place) cell) }) user.0.pin next user.2 in
      let pin = (user_sound core number user.0 sound user.1).pin place.0 place.1 in
      subst (λ (c : CoreState C K T R V). IsSound effect after value c) place.2 (keep_sound core place.0 cell pin.within sound)
  event_sound core next (event.Unpin number) sound is =
      let user = and_then_found (λ user. unpin_by core number user) (user_at core.users number) next is in
      let place = mapped (λ place. with_user core number (unpinned user.0)) user.0.pin next user.2 in
      subst (λ (c : CoreState C K T R V). IsSound effect after value c) place.2
      (with_user_sound core number (unpinned user.0) sound (user_unpins effect after core.first core.log number user.0 (user_sound core number user.0 sound user.1)))

  -- a sound core has one history
  pub sound_history : (core : CoreState C K T R V) → IsSound effect after value core → IsOneHistory effect after value core
  sound_history core sound =
      let runs : EachRunSoFar effect after core.first (commands_of core.users) (told_of core.users) core.log =
      λ index commands replies is told_is.
      let a = mapped (λ (u : UserState K T R). u.commands) (slice_get core.users index) commands (sym (slice_get-map (λ (u : UserState K T R). u.commands) core.users index) ∙ is) in
      let b = mapped (λ (u : UserState K T R). u.told) (slice_get core.users index) replies (sym (slice_get-map (λ (u : UserState K T R). u.told) core.users index) ∙ told_is) in
      let same : b.0 ≡ a.0 = some_same (sym b.1 ∙ a.1) in
      rw (sym a.2, sym b.2, same) ((sound.users index a.0 a.1).run) in
      let lengths : length (told_of core.users) ≡ length (commands_of core.users) = simp length-map in
      let count : length (commands_of core.users) ≡ length core.users = simp length-map in
      record {
        legal = runs_legal effect after core.first (commands_of core.users) (told_of core.users) core.log lengths (rw count sound.known) runs;
        runs = runs;
        kept = sound.kept;
      }
