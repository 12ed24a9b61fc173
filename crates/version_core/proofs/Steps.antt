-- The steps as the code takes them: the user of a number stands at an index of a list, and a step writes that element.
use Rattle.std.proofs.Common.{◌≡◌, ◌≢◌, ℕ, ◌+◌, ◌<◌, ◌≤◌, ◌^◌, ◌==◌, ◌&&◌, ◌||◌, map, Bool, true, false, zero, suc, List, [], ◌∷◌, ◌++◌, length, Option, Some, None, refl, ap, sym, ◌∙◌, subst, arith, inl, inr}
use Rattle.std.specs.List.{slice_get, list_any}
use Rattle.std.proofs.Math.Seq.{take-length}
use Rattle.std.proofs.lemmas.List.{map-append}
use Rattle.std.proofs.lemmas.Bool.Decides.{nat_tests}
use Rattle.std.specs.Prelude.{slice_set, slice_index_or}
use Rattle.std.proofs.lemmas.Option.{slice_get_read}
use Rattle.std.proofs.lemmas.List.{length-set, length-append}
use Rattle.history.specs.declared.entry.Entry.{Entry}
use Rattle.history.specs.declared.effect.Effect.{Effect}
use Rattle.history.specs.declared.effect.Effect.TheVariants.{Commit, Rejected, Read}
use Rattle.history.specs.Version.{content_after, version}
use Rattle.lists.proofs.Found.{none_some, some_same}
use Rattle.history.proofs.Lists.{get_split}
use Rattle.std.proofs.lemmas.Option.{slice_get_within}
use Rattle.history.proofs.Runs.{version-append, content_after-append}
use Rattle.version_core.specs.declared.event.Event.{Event}
use Rattle.version_core.specs.declared.event.Event.TheVariants as kind
use Rattle.version_core.specs.declared.known.Known.{Known}
use Rattle.version_core.specs.declared.user.Tried.{Tried}
use Rattle.version_core.specs.CoreState.{UserState, KeptValue, CoreState, start, new_user, next_command, user_at, set_user, with_user, given}
use Rattle.version_core.specs.Events.{pinned, unpinned, answered, after_try, has_kept, try_by, commit_by, event_after, IsStep}
use Rattle.version_core.specs.Acts.{Give, act_after}
use Rattle.version_core.specs.Inside.Sound.{IsSound}
use Rattle.version_core.specs.Inside.Stored.{kept_value, core_of, IsStored}
use Rattle.version_core.proofs.Finding.{get_set, get_replicate, user_index}
use Rattle.version_core.proofs.Cores.{start_sound, user_sound, give_sound, event_sound, only_one}

-- the user of a number stands at the index below it
pub user_here : {U : Type 0} (users : List U) (number index : ℕ) (user : U) → number ≡ index + 1 → index < length users
    → user ≡ slice_index_or users index user → user_at users number ≡ Some user
user_here users number index user at below is =
    let next : index + 1 ≡ suc index = omega arith in
    rw (at, next) (slice_get_read users (length users) index user refl below is)

pub set_user_here : {U : Type 0} (users : List U) (number index : ℕ) (user : U) → number ≡ index + 1 → set_user users number user ≡ slice_set users index user
set_user_here users number index user at = let next : index + 1 ≡ suc index = omega arith in rw (at, next) refl

pub few_set : {K T R : Type 0} (users : List (UserState K T R)) (index : ℕ) (now : UserState K T R)
    → ((i : ℕ) (user : UserState K T R) → slice_get users i ≡ Some user → length user.commands < 2 ^ 32) → length now.commands < 2 ^ 32
    → (i : ℕ) (user : UserState K T R) → slice_get (slice_set users index now) i ≡ Some user → length user.commands < 2 ^ 32
few_set users index now few one i user is =
    elim (get_set users index now i user is) [ inl here ↦ rw here.1 one | inr there ↦ few i user there.1 ]

-- two look-ups of one number find one user
pub same_user : {U : Type 0} (users : List U) (number : ℕ) (user other : U) → user_at users number ≡ Some user → user_at users number ≡ Some other → user ≡ other
same_user users number user other one two = some_same (sym one ∙ two)

-- what is read and what is written at the index are the user of the number
pub users_here : {U : Type 0} (users : List U) (number index : ℕ) (read written : U) → number ≡ index + 1 → index < length users
    → read ≡ slice_index_or users index read → written ≡ slice_index_or users index written → (user_at users number ≡ Some written) × (written ≡ read)
users_here users number index read written at below is too =
    let here = user_here users number index written at below too in
    (here, same_user users number written read here (user_here users number index read at below is))

-- a user that stays leaves the users as they were
pub set_same : {U : Type 0} (users : List U) (index : ℕ) (user : U) → slice_get users index ≡ Some user → slice_set users index user ≡ users
set_same [] index user is = absurd (none_some is)
set_same (first ∷ users) zero user is = ap (λ u. u ∷ users) (sym (some_same is))
set_same (first ∷ users) (suc index) user is = ap (λ us. first ∷ us) (set_same users index user is)

module _ {S C K T R V : Type 0} (content : S → C) (effect : C → K → Effect T R) (after : C → T → C) (value : C → ℕ → V) where
  -- the core, with this user at the index
  abbrev pub user_set_at : CoreState C K T R V → ℕ → UserState K T R → CoreState C K T R V
  user_set_at core index now = record core { users = slice_set core.users index now }

  -- the event is enabled, and the core after it is this one, which is stored with these versions
  abbrev pub IsDone : CoreState C K T R V → Event → CoreState C K T R V → List S → Type 0
  IsDone core event now versions = IsStored content effect after value now versions × (event_after effect after value core event ≡ Some now)

  pub with_user_at : (core : CoreState C K T R V) (number index : ℕ) (now : UserState K T R) → number ≡ index + 1 → with_user core number now ≡ user_set_at core index now
  with_user_at core number index now at = ap (λ (users : List (UserState K T R)). record core { users = users }) (set_user_here core.users number index now at)

  stored_set : (core : CoreState C K T R V) (versions : List S) (number index : ℕ) (user now : UserState K T R) → IsStored content effect after value core versions
      → number ≡ index + 1 → user_at core.users number ≡ Some user → IsSound effect after value (with_user core number now)
      → length now.commands < 2 ^ 32 → IsStored content effect after value (user_set_at core index now) versions
  stored_set core versions number index user now stored at here sound one = record {
    sound = rw (with_user_at core number index now at) at sound;
    all = stored.all;
    are_versions = stored.are_versions;
    few = few_set core.users index now stored.few one;
  }

  -- a user that stays leaves the core as it was
  pub stays : (core : CoreState C K T R V) (number index : ℕ) (user now : UserState K T R) → number ≡ index + 1 → user_at core.users number ≡ Some user → now ≡ user
      → user_set_at core index now ≡ core
  stays core number index user now at here same =
      let found = user_index core.users number user here in
      let index_is : found.0 ≡ index = omega (arith, found.1) in
      let get : slice_get core.users index ≡ Some now = rw (sym index_is, same) found.2 in
      ap (λ (users : List (UserState K T R)). record core { users = users }) (set_same core.users index now get)

  pub stays_stored : (core : CoreState C K T R V) (versions : List S) (number index : ℕ) (user now : UserState K T R)
      → IsStored content effect after value core versions → number ≡ index + 1 → user_at core.users number ≡ Some user → now ≡ user
      → IsStored content effect after value (user_set_at core index now) versions
  stays_stored core versions number index user now stored at here same =
      subst (λ (c : CoreState C K T R V). IsStored content effect after value c versions) (sym (stays core number index user now at here same)) stored

  few_commands : (core : CoreState C K T R V) (versions : List S) (number : ℕ) (user : UserState K T R) → IsStored content effect after value core versions
      → user_at core.users number ≡ Some user → length user.commands < 2 ^ 32
  few_commands core versions number user stored here =
      let found = user_index core.users number user here in
      stored.few found.0 user found.2

  pub pin_done : (core : CoreState C K T R V) (versions : List S) (number index : ℕ) (user now : UserState K T R) (command : K)
      → IsStored content effect after value core versions → number ≡ index + 1 → user_at core.users number ≡ Some user → next_command user ≡ Some command
      → now ≡ pinned user (length core.log)
      → IsDone core (kind.Pin number) (user_set_at core index now) versions
  pin_done core versions number index user now command stored at here waits is =
      let event : event_after effect after value core (kind.Pin number) ≡ Some (with_user core number now) = rw (here, waits, is) refl in
      let sound = event_sound effect after value core (with_user core number now) (kind.Pin number) stored.sound event in
      (stored_set core versions number index user now stored at here sound (rw is (few_commands core versions number user stored here)), event ∙ ap Some (with_user_at core number index now at))

  pub unpin_done : (core : CoreState C K T R V) (versions : List S) (number index : ℕ) (user now : UserState K T R) (place : ℕ)
      → IsStored content effect after value core versions → number ≡ index + 1 → user_at core.users number ≡ Some user → user.pin ≡ Some place
      → now ≡ unpinned user
      → IsDone core (kind.Unpin number) (user_set_at core index now) versions
  unpin_done core versions number index user now place stored at here pin is =
      let event : event_after effect after value core (kind.Unpin number) ≡ Some (with_user core number now) = rw (here, pin, is) refl in
      let sound = event_sound effect after value core (with_user core number now) (kind.Unpin number) stored.sound event in
      (stored_set core versions number index user now stored at here sound (rw is (few_commands core versions number user stored here)), event ∙ ap Some (with_user_at core number index now at))

  pub give_done : (core : CoreState C K T R V) (versions : List S) (number index : ℕ) (user now : UserState K T R) (command : K)
      → IsStored content effect after value core versions → number ≡ index + 1 → user_at core.users number ≡ Some user
      → length user.commands + 1 < 2 ^ 32 → now ≡ given user command
      → IsStored content effect after value (user_set_at core index now) versions × (act_after effect after value core (Give number command) ≡ user_set_at core index now)
  give_done core versions number index user now command stored at here few is =
      let act : act_after effect after value core (Give number command) ≡ with_user core number now = rw (here, is) refl in
      let sound : IsSound effect after value (with_user core number now) = rw is (give_sound effect after value core number user command stored.sound here) in
      (stored_set core versions number index user now stored at here sound (rw is (omega (arith, few, length-append user.commands (command ∷ [])))), act ∙ with_user_at core number index now at)

  -- the pinned version is among those that are kept
  pub pin_within : (core : CoreState C K T R V) (versions : List S) (number place : ℕ) (user : UserState K T R) → IsStored content effect after value core versions
      → user_at core.users number ≡ Some user → user.pin ≡ Some place → place < length versions
  pin_within core versions number place user stored here pin =
      let p = (user_sound effect after value core number user stored.sound here).pin place pin in
      omega (arith, p.within, stored.all)

  -- a state has the content of the version of its place
  pub version_here : (core : CoreState C K T R V) (versions : List S) (place : ℕ) (state : S) → IsStored content effect after value core versions
      → place < length versions → state ≡ slice_index_or versions place state → content state ≡ version after core.first core.log place
  version_here core versions place state stored below is = stored.are_versions place state (slice_get_read versions (length versions) place state refl below is)

  -- a state of the same content may stand in the place of another
  pub version_set : (core : CoreState C K T R V) (versions : List S) (place : ℕ) (state now : S) → IsStored content effect after value core versions
      → place < length versions → state ≡ slice_index_or versions place state → content now ≡ content state → IsStored content effect after value core (slice_set versions place now)
  version_set core versions place state now stored below is same = record {
    sound = stored.sound;
    all = rw (length-set versions place now) stored.all;
    are_versions = λ p s found.
        elim (get_set versions place now p s found) [
          | inl here ↦ rw (here.1, here.0) (same ∙ version_here core versions place state stored below is)
          | inr there ↦ stored.are_versions p s there.1
        ];
    few = stored.few;
  }

  commands-after_try : (user : UserState K T R) (place : ℕ) (found : Effect T R) → (after_try user place found).commands ≡ user.commands
  commands-after_try user place (Commit writes reply) = refl
  commands-after_try user place (Rejected reply) = refl
  commands-after_try user place (Read reply) = refl

  pub try_done : (core : CoreState C K T R V) (versions : List S) (number index place : ℕ) (user now : UserState K T R) (command : K) (found : Effect T R)
      → IsStored content effect after value core versions → number ≡ index + 1 → user_at core.users number ≡ Some user
      → user.pin ≡ Some place → user.tried ≡ None → next_command user ≡ Some command
      → found ≡ effect (version after core.first core.log place) command → now ≡ after_try user place found
      → IsDone core (kind.Try number) (user_set_at core index now) versions
  try_done core versions number index place user now command found stored at here pin none waits effect_is is =
      let event : event_after effect after value core (kind.Try number) ≡ Some (with_user core number now) =
      (let by : event_after effect after value core (kind.Try number) ≡ try_by effect after core number user user.pin user.tried (next_command user) = rw here refl in by)
      ∙ ap (λ (p : Option ℕ). try_by effect after core number user p user.tried (next_command user)) pin
      ∙ ap (λ (t : Option (Tried T R)). try_by effect after core number user (Some place) t (next_command user)) none
      ∙ ap (λ (n : Option K). try_by effect after core number user (Some place) None n) waits
      ∙ ap (λ (f : Effect T R). Some (with_user core number (after_try user place f))) (sym effect_is)
      ∙ ap (λ (u : UserState K T R). Some (with_user core number u)) (sym is) in
      let sound = event_sound effect after value core (with_user core number now) (kind.Try number) stored.sound event in
      let commands : now.commands ≡ user.commands = ap (λ (u : UserState K T R). u.commands) is ∙ commands-after_try user place found in
      (stored_set core versions number index user now stored at here sound (rw commands (few_commands core versions number user stored here)), event ∙ ap Some (with_user_at core number index now at))

  -- ## Commit

  -- what a try needs to be committed
  pub commit_needs : (core : CoreState C K T R V) (versions : List S) (number place : ℕ) (user : UserState K T R) (tried : Tried T R) (state : S)
      → IsStored content effect after value core versions → user_at core.users number ≡ Some user → user.pin ≡ Some place → user.tried ≡ Some tried
      → place < length versions → state ≡ slice_index_or versions place state
      → (command : K) × (reply : R) × (effect (content state) command ≡ Commit tried.writes reply)
  commit_needs core versions number place user tried state stored here pin try below is =
      let t = (user_sound effect after value core number user stored.sound here).tried tried try in
      let at : t.place ≡ place = some_same (sym t.is_pin ∙ pin) in
      let version_is : version after core.first core.log t.place ≡ content state = ap (λ (p : ℕ). version after core.first core.log p) at ∙ sym (version_here core versions place state stored below is) in
      (t.command, tried.reply, sym (ap (λ (c : C). effect c t.command) version_is) ∙ t.is_accepted)

  -- the number of the command that is tried fits
  pub commit_number : (core : CoreState C K T R V) (versions : List S) (number : ℕ) (user : UserState K T R) (tried : Tried T R)
      → IsStored content effect after value core versions → user_at core.users number ≡ Some user → user.tried ≡ Some tried → length user.told + 1 < 2 ^ 32
  commit_number core versions number user tried stored here try =
      let t = (user_sound effect after value core number user stored.sound here).tried tried try in
      omega (arith, slice_get_within user.commands (length user.told) t.command t.is_next, few_commands core versions number user stored here)

  -- the kept values stay while the history goes on
  kept_stay : (first : C) (log : List (Entry T)) (entry : Entry T) (known : List Known)
      → ((i : ℕ) (kept : KeptValue V) → slice_get (map (kept_value after value first log) known) i ≡ Some kept → kept.version ≤ length log)
      → map (kept_value after value first (log ++ entry ∷ [])) known ≡ map (kept_value after value first log) known
  kept_stay first log entry [] within = refl
  kept_stay first log entry (one ∷ known) within =
      let here : version after first (log ++ entry ∷ []) one.version ≡ version after first log one.version =
      version-append after first log (entry ∷ []) one.version (within 0 (kept_value after value first log one) refl) in
      let rest = kept_stay first log entry known (λ i kept is. within (suc i) kept is) in
      ap (λ (c : C). record { version = one.version; cell = one.cell; value = value c one.cell } ∷ map (kept_value after value first (log ++ entry ∷ [])) known) here
      ∙ ap (λ (xs : List (KeptValue V)). kept_value after value first log one ∷ xs) rest

  pub commit_done : (first : C) (log : List (Entry T)) (known : List Known) (users : List (UserState K T R)) (versions : List S)
      (number index place : ℕ) (user now : UserState K T R) (tried : Tried T R) (state next : S) (entry : Entry T)
      → IsStored content effect after value (core_of after value first log known users) versions
      → number ≡ index + 1 → user_at users number ≡ Some user → user.pin ≡ Some place → place ≡ length log → user.tried ≡ Some tried
      → now ≡ answered user place tried.reply
      → entry ≡ record { user = number; command = length user.told + 1; writes = tried.writes }
      → state ≡ slice_index_or versions place state → content next ≡ after (content state) tried.writes
      → IsDone (core_of after value first log known users) (kind.Commit number) (core_of after value first (log ++ entry ∷ []) known (slice_set users index now)) (versions ++ next ∷ [])
  commit_done first log known users versions number index place user now tried state next entry stored at here pin newest try is entry_is state_is next_is =
      let core : CoreState C K T R V = core_of after value first log known users in
      let done : CoreState C K T R V = core_of after value first (log ++ entry ∷ []) known (slice_set users index now) in
      let same_memo : map (kept_value after value first (log ++ entry ∷ [])) known ≡ map (kept_value after value first log) known =
      kept_stay first log entry known (λ i kept kept_is. (stored.sound.kept i kept kept_is).within) in
      let test : (place == length log) ≡ true = grind (arith, nat_tests) in
      let event : event_after effect after value core (kind.Commit number) ≡ Some done =
      (let by : event_after effect after value core (kind.Commit number) ≡ commit_by core number user user.pin user.tried = rw here refl in by)
      ∙ ap (λ (p : Option ℕ). commit_by core number user p user.tried) pin
      ∙ ap (λ (t : Option (Tried T R)). commit_by core number user (Some place) t) try
      ∙ rw (test, set_user_here users number index (answered user place tried.reply) at, sym is, sym entry_is, sym same_memo) refl in
      let sound : IsSound effect after value done = event_sound effect after value core done (kind.Commit number) stored.sound event in
      let length_versions : length versions ≡ length log + 1 = stored.all in
      let below : place < length versions = omega arith in
      let commands : now.commands ≡ user.commands = ap (λ (u : UserState K T R). u.commands) is in (
        record {
          sound = sound;
          all = omega (arith, length-append versions (next ∷ []), length-append log (entry ∷ []), stored.all);
          are_versions = λ p s found.
              elim (get_split versions (next ∷ []) p s found) [
                | inl old ↦
                    let within : p ≤ length log = omega (arith, slice_get_within versions p s old) in
                    rw (version-append after first log (entry ∷ []) p within) (stored.are_versions p s old)
                | inr new ↦
                    let end : p ≡ length (log ++ entry ∷ []) = omega (arith, new.1, slice_get_within (next ∷ []) new.0 s new.2, length-append log (entry ∷ [])) in
                    let whole : version after first (log ++ entry ∷ []) (length (log ++ entry ∷ [])) ≡ content_after after first (log ++ entry ∷ []) = ap (content_after after first) (take-length (log ++ entry ∷ [])) in
                    let here_version : content state ≡ content_after after first log = version_here core versions place state stored below state_is ∙ ap (λ (n : ℕ). version after first log n) newest ∙ ap (content_after after first) (take-length log) in
                    let writes : entry.writes ≡ tried.writes = ap (λ (e : Entry T). e.writes) entry_is in
                    rw (sym (only_one next s new.0 new.2), end, whole, content_after-append after first log entry, writes, sym here_version) next_is
              ];
          few = few_set users index now stored.few (rw commands (few_commands core versions number user stored here));
        },
        event,
      )

  -- a commit that another overtook is not enabled
  pub commit_late : (core : CoreState C K T R V) (number place : ℕ) (user : UserState K T R) (tried : Tried T R)
      → user_at core.users number ≡ Some user → user.pin ≡ Some place → user.tried ≡ Some tried → place ≢ length core.log
      → event_after effect after value core (kind.Commit number) ≡ None
  commit_late core number place user tried here pin try late =
      let test : (place == length core.log) ≡ false = grind (arith, nat_tests) in
      (let by : event_after effect after value core (kind.Commit number) ≡ commit_by core number user user.pin user.tried = rw here refl in by)
      ∙ ap (λ (p : Option ℕ). commit_by core number user p user.tried) pin
      ∙ ap (λ (t : Option (Tried T R)). commit_by core number user (Some place) t) try
      ∙ rw test refl

  pub entry_same : (user command number : ℕ) (writes other : T) → command ≡ number → writes ≡ other
      → ◌≡◌ {A = Entry T} (record { user = user; command = command; writes = writes }) (record { user = user; command = number; writes = other })
  entry_same user command number writes other at same = rw (at, same) refl

  -- ## Keep and Read

  pub has_kept-known : (first : C) (log : List (Entry T)) (known : List Known) (place cell : ℕ)
      → has_kept (map (kept_value after value first log) known) place cell ≡ list_any (λ k. (k.version == place) && (k.cell == cell)) known
  has_kept-known first log [] place cell = refl
  has_kept-known first log (one ∷ known) place cell =
      ap (λ (b : Bool). ((one.version == place) && (one.cell == cell)) || b) (has_kept-known first log known place cell)

  pub keep_done : (first : C) (log : List (Entry T)) (known : List Known) (users : List (UserState K T R)) (versions : List S)
      (number place cell : ℕ) (user : UserState K T R) (one : Known)
      → IsStored content effect after value (core_of after value first log known users) versions
      → user_at users number ≡ Some user → user.pin ≡ Some place
      → list_any (λ k. (k.version == place) && (k.cell == cell)) known ≡ false
      → one ≡ record { version = place; cell = cell }
      → IsDone (core_of after value first log known users) (kind.Keep number cell) (core_of after value first log (known ++ one ∷ []) users) versions
  keep_done first log known users versions number place cell user one stored here pin new is =
      let core : CoreState C K T R V = core_of after value first log known users in
      let done : CoreState C K T R V = core_of after value first log (known ++ one ∷ []) users in
      let test : has_kept (map (kept_value after value first log) known) place cell ≡ false = has_kept-known first log known place cell ∙ new in
      let event : event_after effect after value core (kind.Keep number cell) ≡ Some done =
      rw (here, pin, test, map-append (kept_value after value first log) known (one ∷ []), is) refl in (
        record {
          sound = event_sound effect after value core done (kind.Keep number cell) stored.sound event;
          all = stored.all;
          are_versions = stored.are_versions;
          few = stored.few;
        },
        event,
      )

  pub keep_again : (first : C) (log : List (Entry T)) (known : List Known) (users : List (UserState K T R)) (number place cell : ℕ) (user : UserState K T R)
      → user_at users number ≡ Some user → user.pin ≡ Some place
      → list_any (λ k. (k.version == place) && (k.cell == cell)) known ≡ true
      → event_after effect after value (core_of after value first log known users) (kind.Keep number cell) ≡ Some (core_of after value first log known users)
  keep_again first log known users number place cell user here pin old =
      let test : has_kept (map (kept_value after value first log) known) place cell ≡ true = has_kept-known first log known place cell ∙ old in
      rw (here, pin, test) refl

  pub read_done : (first : C) (log : List (Entry T)) (known : List Known) (users : List (UserState K T R)) (number place cell : ℕ) (user : UserState K T R) (found : Bool)
      → user_at users number ≡ Some user → user.pin ≡ Some place
      → found ≡ list_any (λ k. (k.version == place) && (k.cell == cell)) known
      → IsStep effect after value (core_of after value first log known users) (kind.Read number cell) (core_of after value first log known users) found
  read_done first log known users number place cell user true here pin is =
      let test : has_kept (map (kept_value after value first log) known) place cell ≡ true = has_kept-known first log known place cell ∙ sym is in
      rw (here, pin, test) refl
  read_done first log known users number place cell user false here pin is =
      let test : has_kept (map (kept_value after value first log) known) place cell ≡ false = has_kept-known first log known place cell ∙ sym is in
      (let idle : event_after effect after value (core_of after value first log known users) (kind.Read number cell) ≡ None = rw (here, pin, test) refl in idle, refl)

  -- ## Start

  pub stored_start : (state : S) (count : ℕ) → IsStored {R = R} content effect after value (start (content state) count) (state ∷ [])
  stored_start state count = record {
    sound = start_sound effect after value (content state) count;
    all = refl;
    are_versions = λ place s is. only_state place s is;
    few = λ index user is. rw (get_replicate count new_user index user is) (omega arith);
  }
    where
      only_state : (place : ℕ) (s : S) → slice_get (state ∷ []) place ≡ Some s → content s ≡ version after (content state) [] place
      only_state zero s is = ap content (sym (some_same is))
      only_state (suc place) s is = absurd (none_some is)
