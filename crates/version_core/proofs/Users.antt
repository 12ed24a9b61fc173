-- What an event does to a user keeps the user sound, and another user's commit does too.
use Rattle.std.proofs.Common.{◌≡◌, ◌≢◌, ℕ, ◌+◌, List, [], ◌∷◌, ◌++◌, length, take, drop, Some, refl, ap, sym, ◌∙◌, arith, length-append}
use Rattle.std.proofs.lemmas.List.{take-append-le, take-append-drop, length-take-le}
use Rattle.std.proofs.Math.Seq.{take-length}
use Rattle.history.specs.declared.entry.Entry.{Entry}
use Rattle.history.specs.declared.told.Told.{Told}
use Rattle.history.specs.declared.effect.Effect.{Effect}
use Rattle.history.specs.declared.effect.Effect.TheVariants.{Commit, Rejected, Read}
use Rattle.history.specs.Version.{content_after, version, NoneFrom}
use Rattle.history.specs.UserRun.{reply_of, least_after, RunSoFar}
use Rattle.history.proofs.Lists.{get_here, get_drop}
use Rattle.history.proofs.Runs.{told_more, told_given, run_told, run_committed, run_beside, run_starts, none_at_end, none_from-append, none_in_one, version-append}
use Rattle.version_core.specs.declared.user.Tried.{Tried}
use Rattle.version_core.specs.CoreState.{UserState, new_user, next_command, given}
use Rattle.version_core.specs.Events.{pinned, unpinned, answered, after_try}
use Rattle.lists.proofs.Found.{none_some, some_same}
use Rattle.version_core.specs.Inside.Sound.{IsUserSound}

module _ {C K T R : Type 0} (effect : C → K → Effect T R) (after : C → T → C) (first : C) where
  pub user_starts : (log : List (Entry T)) (number : ℕ) → NoneFrom log 0 number → IsUserSound effect after first log number new_user
  user_starts log number none = record {
    run = run_starts effect after first log number [] none;
    pin = λ place is. absurd (none_some is);
    tried = λ tried is. absurd (none_some is);
  }

  pub user_unpins : (log : List (Entry T)) (number : ℕ) (user : UserState K T R)
      → IsUserSound effect after first log number user → IsUserSound effect after first log number (unpinned user)
  user_unpins log number user sound = record { run = sound.run; pin = λ place is. absurd (none_some is); tried = λ tried is. absurd (none_some is) }

  pub user_pins : (log : List (Entry T)) (number : ℕ) (user : UserState K T R) (command : K)
      → IsUserSound effect after first log number user → next_command user ≡ Some command
      → IsUserSound effect after first log number (pinned user (length log))
  user_pins log number user command sound next = record {
    run = sound.run;
    pin = λ place is.
        let here : length log ≡ place = cc in
        rw (sym here) (record {
          within = omega arith;
          command = command;
          is_next = next;
          run = rw (take-length log) sound.run;
          none_since = none_at_end log number;
        });
    tried = λ tried is. absurd (none_some is);
  }

  pub user_given : (log : List (Entry T)) (number : ℕ) (user : UserState K T R) (command : K)
      → IsUserSound effect after first log number user → IsUserSound effect after first log number (given user command)
  user_given log number user command sound = record {
    run = told_given effect after first log number 1 0 user.told user.commands (command ∷ []) sound.run;
    pin = λ place is.
        let p = sound.pin place is in
        record {
          within = p.within;
          command = p.command;
          is_next = get_here user.commands (command ∷ []) (length user.told) p.command p.is_next;
          run = told_given effect after first (take place log) number 1 0 user.told user.commands (command ∷ []) p.run;
          none_since = p.none_since;
        };
    tried = λ tried is.
        let t = sound.tried tried is in
        record {
          place = t.place;
          command = t.command;
          is_pin = t.is_pin;
          is_next = get_here user.commands (command ∷ []) (length user.told) t.command t.is_next;
          is_accepted = t.is_accepted;
        };
  }

  -- a command that is no commit is told at the pinned version
  pub user_told : (log : List (Entry T)) (number : ℕ) (user : UserState K T R) (place : ℕ) (command : K) (found : Effect T R) (reply : R)
      → IsUserSound effect after first log number user → user.pin ≡ Some place → next_command user ≡ Some command
      → effect (version after first log place) command ≡ found → reply ≡ reply_of found → ((p : ℕ) → least_after found p ≡ p)
      → IsUserSound effect after first log number (answered user place reply)
  user_told log number user place command found reply sound pin next is same stays =
      let p = sound.pin place pin in
      let front : length (take place log) ≡ place = length-take-le place log p.within in
      let whole : take place log ++ drop place log ≡ log = take-append-drop place log in
      let one : Told R = record { place = place; reply = reply } in
      let run : RunSoFar effect after first (take place log) number (user.told ++ one ∷ []) user.commands =
      run_told effect after first (take place log) number user.told user.commands command one found p.run next (sym front) is same (stays (length (take place log))) in
      record {
        run = rw whole at (told_more effect after first (take place log) (drop place log) number (λ q entry from at. p.none_since (place + q) entry (omega arith) (get_drop place log q entry at)) 1 0 (user.told ++ one ∷ []) user.commands run);
        pin = λ place is. absurd (none_some is);
        tried = λ tried is. absurd (none_some is);
      }

  pub user_tries : (log : List (Entry T)) (number : ℕ) (user : UserState K T R) (place : ℕ) (command : K)
      → IsUserSound effect after first log number user → user.pin ≡ Some place → next_command user ≡ Some command
      → (found : Effect T R) → effect (version after first log place) command ≡ found
      → IsUserSound effect after first log number (after_try user place found)
  user_tries log number user place command sound pin next (Commit writes reply) is = record {
    run = sound.run;
    pin = λ q at.
        let p = sound.pin q at in
        record { within = p.within; command = p.command; is_next = p.is_next; run = p.run; none_since = p.none_since };
    tried = λ tried at.
        let here : record { writes = writes; reply = reply } ≡ tried = cc in
        record {
          place = place;
          command = command;
          is_pin = pin;
          is_next = next;
          is_accepted = is ∙ ap (λ (t : Tried T R). Commit t.writes t.reply) here;
        };
  }
  user_tries log number user place command sound pin next (Rejected reply) is =
      user_told log number user place command (Rejected reply) reply sound pin next is refl (λ p. refl)
  user_tries log number user place command sound pin next (Read reply) is =
      user_told log number user place command (Read reply) reply sound pin next is refl (λ p. refl)

  -- the user's own commit
  pub user_commits : (log : List (Entry T)) (number : ℕ) (user : UserState K T R) (tried : Tried T R)
      → IsUserSound effect after first log number user → user.pin ≡ Some (length log) → user.tried ≡ Some tried
      → IsUserSound effect after first (log ++ record { user = number; command = length user.told + 1; writes = tried.writes } ∷ []) number (answered user (length log) tried.reply)
  user_commits log number user tried sound pin is =
      let t = sound.tried tried is in
      let here : t.place ≡ length log = some_same (sym t.is_pin ∙ pin) in
      let all : version after first log t.place ≡ content_after after first log = ap (λ (p : ℕ). version after first log p) here ∙ ap (content_after after first) (take-length log) in
      let accepted : effect (content_after after first log) t.command ≡ Commit tried.writes tried.reply = ap (λ (content : C). effect content t.command) (sym all) ∙ t.is_accepted in
      let one : Told R = record { place = length log; reply = tried.reply } in
      let entry : Entry T = record { user = number; command = length user.told + 1; writes = tried.writes } in
      record {
        run = run_committed effect after first log number user.told user.commands t.command one entry tried.reply sound.run t.is_next refl accepted refl refl refl;
        pin = λ place is. absurd (none_some is);
        tried = λ tried is. absurd (none_some is);
      }

  -- another user's commit
  pub user_beside : (log : List (Entry T)) (number : ℕ) (user : UserState K T R) (entry : Entry T)
      → IsUserSound effect after first log number user → entry.user ≢ number → IsUserSound effect after first (log ++ entry ∷ []) number user
  user_beside log number user entry sound other = record {
    run = run_beside effect after first log number user.told user.commands entry sound.run other;
    pin = λ place is.
        let p = sound.pin place is in
        record {
          within = omega (arith, p.within, length-append log (entry ∷ []));
          command = p.command;
          is_next = p.is_next;
          run = rw (take-append-le place log (entry ∷ []) p.within) p.run;
          none_since = none_from-append log (entry ∷ []) place number p.none_since (none_in_one entry number other);
        };
    tried = λ tried is.
        let t = sound.tried tried is in
        let p = sound.pin t.place t.is_pin in
        record {
          place = t.place;
          command = t.command;
          is_pin = t.is_pin;
          is_next = t.is_next;
          is_accepted = rw (version-append after first log (entry ∷ []) t.place p.within) t.is_accepted;
        };
  }
