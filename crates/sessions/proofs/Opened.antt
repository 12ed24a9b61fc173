-- Sessions that are opened, and that ran on.
use Rattle.std.proofs.Common.{◌≡◌, ℕ, ◌+◌, ◌<◌, zero, suc, List, [], ◌∷◌, ◌++◌, length, Option, None, Some, slice_get, refl, ap, sym, ◌∙◌, subst, arith, inl, inr}
use Rattle.std.specs.Prelude.{All, get_or}
use Rattle.std.specs.declared.snapshot.Snapshot.{Snapshot}
use Rattle.std.proofs.lemmas.Option.{slice_get-get_or, slice_get_read}
use Rattle.std.proofs.lemmas.List.{map-append}
use Rattle.history.specs.declared.entry.Entry.{Entry}
use Rattle.history.specs.declared.told.Told.{Told}
use Rattle.history.specs.declared.effect.Effect.{Effect}
use Rattle.layers.specs.Layered.{effect_of, layered, layer_after, LayeredSoFar}
use Rattle.history.proofs.Lists.{get_split}
use Rattle.std.proofs.lemmas.Option.{slice_get_within}
use Rattle.history.proofs.Runs.{none_in_nothing, run_starts}
use Rattle.version_book.specs.declared.pass_view.PassView.{PassView}
use Rattle.version_book.specs.declared.book.BookOf.{BookOf}
use Rattle.version_book.specs.declared.book.PassOf.{PassOf}
use Rattle.version_book.specs.Passes.{IsOf, numbers_of, opening_of, seen}
use Rattle.sessions.specs.declared.session.SessionOf.{SessionOf}
use Rattle.sessions.specs.declared.own.OwnOf.{OwnOf}
use Rattle.sandbox.specs.Sandboxes.{layer_in}
use Rattle.sessions.specs.Answers.{layer_of, sight}
use Rattle.sessions.specs.Sessions.{IsLaidAt, IsRunning}
use Rattle.sessions.specs.Inside.AllSessions.{AreRunning, commands_of}
use Rattle.sessions.specs.Inside.Gathered.{IsFurther}
use Rattle.sessions.proofs.Answered.{looked_first}
pub use Rattle.std.proofs.lemmas.Option.{same_Some as same_number}

-- what a user begins with
abbrev own_none : {Y S : Type 0} → OwnOf Y S
own_none = record { sandbox = None; laid_at = 0 }

pub one_there : {A : Type 0} (x y : A) (place : ℕ) → slice_get (x ∷ []) place ≡ Some y → (place ≡ 0) × (x ≡ y)
one_there x y zero is = (refl, cc)
one_there x y (suc place) is = cc

module _ {H S C T K R Q Y : Type 0} (answer : C → Option T → K → Effect T R × Option T) (after : C → T → C) (content : S → C) (unfit : C → T → Option R) (kept : Y → T)
    (book : BookOf H (PassView S T) (Snapshot S) Q) where
  no_layer_of : (session : SessionOf H S T K R Y) → session.own ≡ own_none → layer_of kept session ≡ None
  no_layer_of session is = ap (λ (own : OwnOf Y S). layer_in kept own.sandbox) is

  -- a session that nothing was told of yet
  pub running_first : (session : SessionOf H S T K R Y) → IsOf book session.pass → numbers_of session.pass ≡ session.user ∷ [] → seen session.pass ≡ [] → session.told.items ≡ [] → session.own ≡ own_none
      → IsRunning answer after content unfit kept book session
  running_first session of number none told no_layer = record {
    of = of;
    number = number;
    run =
        let F : C = content (opening_of book) in
        subst (λ (ts : List (Told R)). LayeredSoFar answer after F (seen session.pass) session.user None ts session.commands) (sym told)
        (subst (λ (log : List (Entry T)). LayeredSoFar answer after F log session.user None [] session.commands) (sym none)
        (run_starts (effect_of answer) after F [] session.user (layered answer after F [] None [] session.commands) (none_in_nothing 0 session.user)));
    layer =
        let F : C = content (opening_of book) in
        subst (λ (ts : List (Told R)). layer_of kept session ≡ layer_after answer after F (seen session.pass) None ts session.commands) (sym told) (no_layer_of session no_layer);
    laid = subst (λ (own : OwnOf Y S). IsLaidAt content after unfit kept (content (opening_of book)) (seen session.pass) own) (sym no_layer) (record { within = omega arith; laid = tt });
    looked = looked_first answer after (content (opening_of book)) session.user session.told.items session.commands (sight session.pass) (layer_of kept session) told none (no_layer_of session no_layer);
  }

  -- at a pass that has seen nothing
  pub running_at : (pass : PassOf H S T) (session : SessionOf H S T K R Y) (number : ℕ) → IsOf book pass → numbers_of pass ≡ number ∷ [] → seen pass ≡ []
      → session.pass ≡ pass → session.user ≡ number → session.told.items ≡ [] → session.own ≡ own_none → IsRunning answer after content unfit kept book session
  running_at pass session number of numbers none pass_is user told no_layer =
      running_first session (subst (λ (p : PassOf H S T). IsOf book p) (sym pass_is) of)
      (ap (λ (p : PassOf H S T). numbers_of p) pass_is ∙ (numbers ∙ ap (λ (n : ℕ). n ∷ []) (sym user)))
      (ap (λ (p : PassOf H S T). seen p) pass_is ∙ none) told no_layer

  pub of_same : (pass other : PassOf H S T) → pass ≡ other → IsOf book other → IsOf book pass
  of_same pass other is of = subst (λ (p : PassOf H S T). IsOf book p) (sym is) of

  -- what is known of the session whose turn it is
  pub turn_of : (sessions : List (SessionOf H S T K R Y)) (index : ℕ) (session : SessionOf H S T K R Y) → (index < length sessions) × (session ≡ get_or sessions index session)
      → AreRunning answer after content unfit kept book sessions → All (λ (s : SessionOf H S T K R Y). length s.told.items ≡ length s.commands) sessions
      → IsRunning answer after content unfit kept book session × (session.user ≡ index + 1) × (length session.told.items ≡ length session.commands)
  turn_of sessions index session turn are answered =
      let has = are index session (slice_get_read sessions (length sessions) index session refl turn.0 turn.1) in
      let all : length (get_or sessions index session).told.items ≡ length (get_or sessions index session).commands = answered index session turn.0 in
      (has.0, has.1, subst (λ (s : SessionOf H S T K R Y). length s.told.items ≡ length s.commands) (sym turn.1) all)

  pub running_none : AreRunning answer after content unfit kept book []
  running_none index session is = cc

  -- and one session more
  pub running_more : (sessions : List (SessionOf H S T K R Y)) (session : SessionOf H S T K R Y) → AreRunning answer after content unfit kept book sessions
      → IsRunning answer after content unfit kept book session → session.user ≡ length sessions + 1 → AreRunning answer after content unfit kept book (sessions ++ session ∷ [])
  running_more sessions session are running user index one is =
      elim (get_split sessions (session ∷ []) index one is) [
        | inl here ↦ are index one here
        | inr there ↦
            let at = one_there session one there.0 there.2 in
            subst (λ (s : SessionOf H S T K R Y). IsRunning answer after content unfit kept book s × (s.user ≡ index + 1)) at.1 (running, omega (arith, user, there.1, at.0))
      ]

  pub further_running : (before later : List (SessionOf H S T K R Y)) → length later ≡ length before
      → ((i : ℕ) (d : SessionOf H S T K R Y) → i < length before → IsFurther answer after content unfit kept book (get_or before i d) (get_or later i d))
      → AreRunning answer after content unfit kept book before → AreRunning answer after content unfit kept book later
  further_running before later len further are index session is =
      let within : index < length before = omega (arith, slice_get_within later index session is, len) in
      let go = further index session within in
      let was = are index (get_or before index session) (slice_get-get_or before index session within) in
      let now : get_or later index session ≡ session = get_at later index session is in
      subst (λ (s : SessionOf H S T K R Y). IsRunning answer after content unfit kept book s × (s.user ≡ index + 1)) now (go.running, go.user ∙ was.1)
    where
      get_at : {A : Type 0} (xs : List A) (i : ℕ) (x : A) → slice_get xs i ≡ Some x → get_or xs i x ≡ x
      get_at [] i x is = refl
      get_at (y ∷ ys) zero x is = cc
      get_at (y ∷ ys) (suc i) x is = get_at ys i x is

  pub further_commands : (before later : List (SessionOf H S T K R Y)) → length later ≡ length before
      → ((i : ℕ) (d : SessionOf H S T K R Y) → i < length before → IsFurther answer after content unfit kept book (get_or before i d) (get_or later i d))
      → commands_of later ≡ commands_of before
  further_commands [] [] len further = refl
  further_commands [] (l ∷ later) len further = absurd (omega (arith, len))
  further_commands (b ∷ before) [] len further = absurd (omega (arith, len))
  further_commands (b ∷ before) (l ∷ later) len further =
      let here : l.commands ≡ b.commands = (further 0 b (omega arith)).commands in
      let rest : commands_of later ≡ commands_of before = further_commands before later (omega (arith, len)) (λ i d below. further (suc i) d (omega (arith, below))) in
      ap (λ ks. ks ∷ commands_of later) here ∙ ap (λ kss. b.commands ∷ kss) rest

pub commands-append : {H S T K R Y : Type 0} (sessions : List (SessionOf H S T K R Y)) (session : SessionOf H S T K R Y)
    → commands_of (sessions ++ session ∷ []) ≡ commands_of sessions ++ session.commands ∷ []
commands-append sessions session = map-append (λ s. s.commands) sessions (session ∷ [])
