-- A run that is told along the list, and a run that is read place by place, are the same.
use Rattle.std.proofs.Common.{◌≡◌, ℕ, ◌+◌, ◌≤◌, zero, suc, List, [], ◌∷◌, length, Some, refl, ap, sym, ◌∙◌, arith}
use Rattle.std.specs.List.{slice_get}
use Rattle.history.specs.declared.entry.Entry.{Entry}
use Rattle.history.specs.declared.told.Told.{Told}
use Rattle.history.specs.declared.effect.Effect.{Effect}
use Rattle.history.specs.declared.effect.Effect.TheVariants.{Commit, Rejected, Read}
use Rattle.history.specs.Version.{version, NoneWithin}
use Rattle.history.specs.UserRun.{reply_of, least_after, Stands, ToldFrom, UserRun}
use Rattle.history.specs.ByPlace.{IsToldEntry, IsRunByPlace}
use Rattle.std.proofs.lemmas.Option.{slice_get_within}
use Rattle.lists.proofs.Found.{none_some, some_same, there}
use Rattle.history.proofs.Runs.{least_after_le, place_le}
use Rattle.history.proofs.Histories.{told_entry}

module _ {C K T R : Type 0} (effect : C → K → Effect T R) (after : C → T → C) (first : C) where
  -- what one answer says, by its index
  answer_at : (log : List (Entry T)) (user number least : ℕ) (told : List (Told R)) (commands : List K)
      → ToldFrom effect after first log user number least told commands
      → (i : ℕ) (answer : Told R) (command : K) → slice_get told i ≡ Some answer → slice_get commands i ≡ Some command
      → (answer.reply ≡ reply_of (effect (version after first log answer.place) command))
      × Stands (effect (version after first log answer.place) command) log answer.place user (i + number)
  answer_at log user number least [] commands t i answer command is at = absurd (none_some is)
  answer_at log user number least (one ∷ told) [] t i answer command is at = absurd t
  answer_at log user number least (one ∷ told) (next ∷ commands) t zero answer command is at =
      let zeroth : zero + number ≡ number = omega arith in
      rw (sym (some_same is), sym (some_same at), zeroth) (t.2, t.3)
  answer_at log user number least (one ∷ told) (next ∷ commands) t (suc i) answer command is at =
      let shift : suc i + number ≡ i + (number + 1) = omega arith in
      rw shift (answer_at log user (number + 1) (least_after (effect (version after first log one.place) next) one.place) told commands t.4 i answer command is at)

  order_at : (log : List (Entry T)) (user number least : ℕ) (told : List (Told R)) (commands : List K)
      → ToldFrom effect after first log user number least told commands
      → (i : ℕ) (answer next : Told R) (command : K) → slice_get told i ≡ Some answer → slice_get told (suc i) ≡ Some next → slice_get commands i ≡ Some command
      → least_after (effect (version after first log answer.place) command) answer.place ≤ next.place
  order_at log user number least [] commands t i answer next command is then at = absurd (none_some is)
  order_at log user number least (one ∷ told) [] t i answer next command is then at = absurd t
  order_at log user number least (one ∷ []) (k ∷ commands) t zero answer next command is then at = absurd (none_some then)
  order_at log user number least (one ∷ two ∷ told) (k ∷ []) t zero answer next command is then at = absurd t.4
  order_at log user number least (one ∷ two ∷ told) (k ∷ l ∷ commands) t zero answer next command is then at =
      rw (sym (some_same is), sym (some_same at), sym (some_same then)) t.4.0
  order_at log user number least (one ∷ told) (k ∷ commands) t (suc i) answer next command is then at =
      order_at log user (number + 1) (least_after (effect (version after first log one.place) k) one.place) told commands t.4 i answer next command is then at

  stands_entry : (found : Effect T R) (log : List (Entry T)) (place user number : ℕ) (writes : T) (reply : R) → Stands found log place user number → found ≡ Commit writes reply
      → slice_get log place ≡ Some (record { user = user; command = number; writes = writes })
  stands_entry found log place user number writes reply stands is = rw is at stands

  pub run_by_place : (log : List (Entry T)) (user : ℕ) (told : List (Told R)) (commands : List K)
      → UserRun effect after first log user told commands → IsRunByPlace effect after first log user told commands
  run_by_place log user told commands run = record {
    all = run.0;
    within = λ i answer is.
        let command = there commands i (omega (arith, slice_get_within told i answer is, run.0)) in
        let found = effect (version after first log answer.place) command.0 in
        let at = answer_at log user 1 0 told commands run.1 i answer command.0 is command.1 in
        omega (arith, place_le found answer.place, least_after_le found log answer.place user (i + 1) at.1);
    replies = λ i answer command is at. (answer_at log user 1 0 told commands run.1 i answer command is at).0;
    entries = λ i answer command writes reply is at accepted.
        stands_entry (effect (version after first log answer.place) command) log answer.place user (i + 1) writes reply (answer_at log user 1 0 told commands run.1 i answer command is at).1 accepted;
    order = λ i answer next command is then at.
        let after_i : i + 1 ≡ suc i = omega arith in
        order_at log user 1 0 told commands run.1 i answer next command is (rw after_i at then) at;
    others = λ place entry is own. (told_entry effect after first log user place entry is own 1 0 told commands run.1 (omega arith)).by;
  }

  -- the places never fall
  rising : (log : List (Entry T)) (told : List (Told R)) (commands : List K) → length told ≤ length commands
      → ((i : ℕ) (answer next : Told R) (command : K) → slice_get told i ≡ Some answer → slice_get told (suc i) ≡ Some next → slice_get commands i ≡ Some command
      → least_after (effect (version after first log answer.place) command) answer.place ≤ next.place)
      → (one : Told R) → slice_get told 0 ≡ Some one → (i : ℕ) (answer : Told R) → slice_get told i ≡ Some answer → one.place ≤ answer.place
  rising log told commands few order one is zero answer at = let here : one ≡ answer = some_same (sym is ∙ at) in rw here (omega arith)
  rising log told commands few order one is (suc i) answer at =
      let before = there told i (omega (arith, slice_get_within told (suc i) answer at)) in
      let command = there commands i (omega (arith, slice_get_within told (suc i) answer at)) in
      let up = rising log told commands few order one is i before.0 before.1 in
      let step = order i before.0 answer command.0 before.1 at command.1 in
      omega (arith, up, step, place_le (effect (version after first log before.0.place) command.0) before.0.place)

  stands_of : (found : Effect T R) (log : List (Entry T)) (place user number : ℕ) → place ≤ length log
      → ((writes : T) (reply : R) → found ≡ Commit writes reply → slice_get log place ≡ Some (record { user = user; command = number; writes = writes }))
      → Stands found log place user number
  stands_of (Commit writes reply) log place user number within entry = entry writes reply refl
  stands_of (Rejected reply) log place user number within entry = within
  stands_of (Read reply) log place user number within entry = within

  -- an entry past the first answer is one of the later answers
  entry_past : (log : List (Entry T)) (one : Told R) (told : List (Told R)) (command : K) (commands : List K) (entry : Entry T) (place : ℕ) (reply : R)
      → least_after (effect (version after first log one.place) command) one.place ≤ place
      → (i : ℕ) (answer : Told R) (k : K) → slice_get (one ∷ told) i ≡ Some answer → slice_get (command ∷ commands) i ≡ Some k → answer.place ≡ place
      → effect (version after first log place) k ≡ Commit entry.writes reply → IsToldEntry effect after first log told commands entry place
  entry_past log one told command commands entry place reply from zero answer k is at here accepted =
      let place_is : place ≡ one.place = sym here ∙ ap (λ (t : Told R). t.place) (sym (some_same is)) in
      let found : effect (version after first log one.place) command ≡ Commit entry.writes reply =
      ap (λ (p : ℕ). effect (version after first log p) command) (sym place_is) ∙ ap (λ (c : K). effect (version after first log place) c) (some_same at) ∙ accepted in
      let least : least_after (effect (version after first log one.place) command) one.place ≡ one.place + 1 = ap (λ (f : Effect T R). least_after f one.place) found in
      absurd (omega (arith, from, least, place_is))
  entry_past log one told command commands entry place reply from (suc i) answer k is at here accepted = record {
    index = i;
    answer = answer;
    command = k;
    reply = reply;
    is_answer = is;
    is_command = at;
    is_place = here;
    is_accepted = accepted;
  }

  told_by_place : (log : List (Entry T)) (user number least : ℕ) (told : List (Told R)) (commands : List K)
      → length told ≤ length commands → least ≤ length log
      → ((answer : Told R) → slice_get told 0 ≡ Some answer → least ≤ answer.place)
      → ((i : ℕ) (answer : Told R) → slice_get told i ≡ Some answer → answer.place ≤ length log)
      → ((i : ℕ) (answer : Told R) (command : K) → slice_get told i ≡ Some answer → slice_get commands i ≡ Some command
      → answer.reply ≡ reply_of (effect (version after first log answer.place) command))
      → ((i : ℕ) (answer : Told R) (command : K) (writes : T) (reply : R) → slice_get told i ≡ Some answer → slice_get commands i ≡ Some command
      → effect (version after first log answer.place) command ≡ Commit writes reply
      → slice_get log answer.place ≡ Some (record { user = user; command = i + number; writes = writes }))
      → ((i : ℕ) (answer next : Told R) (command : K) → slice_get told i ≡ Some answer → slice_get told (suc i) ≡ Some next → slice_get commands i ≡ Some command
      → least_after (effect (version after first log answer.place) command) answer.place ≤ next.place)
      → ((place : ℕ) (entry : Entry T) → least ≤ place → slice_get log place ≡ Some entry → entry.user ≡ user → IsToldEntry effect after first log told commands entry place)
      → ToldFrom effect after first log user number least told commands
  told_by_place log user number least [] commands few low start within replies entries order others =
      (low, λ place entry from is own. absurd (none_some (others place entry from is own).is_answer))
  told_by_place log user number least (one ∷ told) [] few low start within replies entries order others = absurd (omega arith)
  told_by_place log user number least (one ∷ told) (command ∷ commands) few low start within replies entries order others =
      let found = effect (version after first log one.place) command in
      let zeroth : zero + number ≡ number = omega arith in
      let stands : Stands found log one.place user number =
      stands_of found log one.place user number (within 0 one refl)
      (λ writes reply is. rw zeroth at (entries 0 one command writes reply refl refl is)) in
      let least' = least_after found one.place in
      let low' : least' ≤ length log = least_after_le found log one.place user number stands in
      let none : NoneWithin log least one.place user =
      λ place entry from below is own.
      let e = others place entry from is own in
      let up = rising log (one ∷ told) (command ∷ commands) few order one refl e.index e.answer e.is_answer in
      omega (arith, up, below, e.is_place) in
      let past = λ (place : ℕ) (entry : Entry T) (from : least' ≤ place) (is : slice_get log place ≡ Some entry) (own : entry.user ≡ user).
      let from_least : least ≤ place = omega (arith, start one refl, place_le found one.place, from) in
      let e = others place entry from_least is own in
      entry_past log one told command commands entry place e.reply from e.index e.answer e.command e.is_answer e.is_command e.is_place e.is_accepted in (
        start one refl,
        none,
        replies 0 one command refl refl,
        stands,
        told_by_place log user (number + 1) least' told commands (omega arith) low'
            (λ answer is. order 0 one answer command refl is refl)
            (λ i answer is. within (suc i) answer is)
            (λ i answer k is at. replies (suc i) answer k is at)
            (λ i answer k writes reply is at accepted. let shift : suc i + number ≡ i + (number + 1) = omega arith in rw shift at (entries (suc i) answer k writes reply is at accepted))
            (λ i answer next k is then at. order (suc i) answer next k is then at)
            past,
      )

  pub by_place_run : (log : List (Entry T)) (user : ℕ) (told : List (Told R)) (commands : List K)
      → IsRunByPlace effect after first log user told commands → UserRun effect after first log user told commands
  by_place_run log user told commands run = (
    run.all,
    told_by_place log user 1 0 told commands (omega (arith, run.all)) (omega arith) (λ answer is. omega arith) run.within run.replies run.entries
        (λ i answer next command is then at. let after_i : suc i ≡ i + 1 = omega arith in run.order i answer next command is (rw after_i at then) at)
        (λ place entry from is own. run.others place entry is own),
  )
