-- What was told of a run stays true of a longer history, and a run goes on by one answer.
use Rattle.std.proofs.Common.{◌≡◌, ◌≢◌, ℕ, ◌+◌, ◌<◌, ◌≤◌, zero, suc, List, [], ◌∷◌, ◌++◌, length, Some, refl, ap, sym, ◌∙◌, arith, inl, inr, length-append}
use Rattle.std.specs.List.{slice_get}
use Rattle.std.proofs.lemmas.List.{take-append-le, append-nil}
use Rattle.std.proofs.Math.Seq.{take-append_seam}
use Rattle.history.specs.declared.entry.Entry.{Entry}
use Rattle.history.specs.declared.told.Told.{Told}
use Rattle.history.specs.declared.effect.Effect.{Effect}
use Rattle.history.specs.declared.effect.Effect.TheVariants.{Commit, Rejected, Read}
use Rattle.history.specs.Version.{content_after, version, NoneFrom, NoneWithin}
use Rattle.history.specs.UserRun.{reply_of, least_after, Stands, ToldFrom, RunSoFar}
use Rattle.history.proofs.Lists.{get_left, get_split, get_end, get_here}
use Rattle.std.proofs.lemmas.Option.{slice_get_within}

module _ {T : Type 0} where
  -- no entry of the user in a longer history, where the rest has none
  pub none_from-append : (log extra : List (Entry T)) (low user : ℕ) → NoneFrom log low user → NoneFrom extra 0 user → NoneFrom (log ++ extra) low user
  none_from-append log extra low user before none p entry least is =
      elim (get_split log extra p entry is) [ inl here ↦ before p entry least here | inr there ↦ none there.0 entry (omega arith) there.2 ]

  pub none_within-append : (log extra : List (Entry T)) (low high user : ℕ) → high ≤ length log → NoneWithin log low high user → NoneWithin (log ++ extra) low high user
  none_within-append log extra low high user within before p entry least below is =
      before p entry least below (let place : p < length log = omega arith in rw (sym (get_left log extra p place)) is)

  pub none_within-from : (log extra : List (Entry T)) (low user : ℕ) → NoneFrom log low user → NoneWithin (log ++ extra) low (length log) user
  none_within-from log extra low user before p entry least below is =
      before p entry least (rw (sym (get_left log extra p below)) is)

  pub none_at_end : (log : List (Entry T)) (user : ℕ) → NoneFrom log (length log) user
  none_at_end log user p entry least is = absurd (omega (arith, slice_get_within log p entry is))

  pub none_past_end : (log : List (Entry T)) (one : Entry T) (user : ℕ) → NoneFrom (log ++ one ∷ []) (length log + 1) user
  none_past_end log one user p entry least is = absurd (omega (arith, slice_get_within (log ++ one ∷ []) p entry is, length-append log (one ∷ [])))

  pub none_in_one : (one : Entry T) (user : ℕ) → one.user ≢ user → NoneFrom (one ∷ []) 0 user
  none_in_one one user other zero entry least is = λ same. let here : one ≡ entry = cc in other (ap (λ e. e.user) here ∙ same)
  none_in_one one user other (suc p) entry least is = λ same. cc

  pub none_in_nothing : (low user : ℕ) → NoneFrom {T = T} [] low user
  none_in_nothing low user p entry least is = λ same. cc

  abbrev entry_of : ℕ → ℕ → T → Entry T
  entry_of user command writes = record { user = user; command = command; writes = writes }

module _ {T R : Type 0} where
  pub stands-append : (found : Effect T R) (log extra : List (Entry T)) (place user number : ℕ) → Stands found log place user number → Stands found (log ++ extra) place user number
  stands-append (Commit writes reply) log extra place user number h = get_here log extra place _ h
  stands-append (Rejected reply) log extra place user number h = omega (arith, length-append log extra, h)
  stands-append (Read reply) log extra place user number h = omega (arith, length-append log extra, h)

  -- the next reply's least place is a version of the history
  pub least_after_le : (found : Effect T R) (log : List (Entry T)) (place user number : ℕ) → Stands found log place user number → least_after found place ≤ length log
  least_after_le (Commit writes reply) log place user number h = omega (arith, slice_get_within log place _ h)
  least_after_le (Rejected reply) log place user number h = h
  least_after_le (Read reply) log place user number h = h

  pub place_le : (found : Effect T R) (place : ℕ) → place ≤ least_after found place
  place_le (Commit writes reply) place = omega arith
  place_le (Rejected reply) place = omega arith
  place_le (Read reply) place = omega arith

module _ {C T : Type 0} (after : C → T → C) (first : C) where
  pub version-append : (log extra : List (Entry T)) (place : ℕ) → place ≤ length log → version after first (log ++ extra) place ≡ version after first log place
  version-append log extra place within = ap (content_after after first) (take-append-le place log extra within)

  pub version-all : (log extra : List (Entry T)) → version after first (log ++ extra) (length log) ≡ content_after after first log
  version-all log extra = ap (content_after after first) (take-append_seam log extra)

pub content_after-append : {C T : Type 0} (after : C → T → C) (first : C) (log : List (Entry T)) (entry : Entry T)
    → content_after after first (log ++ entry ∷ []) ≡ after (content_after after first log) entry.writes
content_after-append after first [] entry = refl
content_after-append after first (e ∷ log) entry = content_after-append after (after first e.writes) log entry

module _ {C K T R : Type 0} (effect : C → K → Effect T R) (after : C → T → C) (first : C) where
  -- what was told is true of a longer history, where the user has none of what comes
  pub told_more : (log extra : List (Entry T)) (user : ℕ) → NoneFrom extra 0 user → (number least : ℕ) (told : List (Told R)) (commands : List K)
      → ToldFrom effect after first log user number least told commands → ToldFrom effect after first (log ++ extra) user number least told commands
  told_more log extra user none number least [] commands t =
      (omega (arith, length-append log extra), none_from-append log extra least user t.1 none)
  told_more log extra user none number least (told ∷ more) [] t = absurd t
  told_more log extra user none number least (told ∷ more) (command ∷ commands) t =
      let found = effect (version after first log told.place) command in
      let within : told.place ≤ length log = omega (arith, place_le found told.place, least_after_le found log told.place user number t.3) in
      rw (version-append after first log extra told.place within) (
        t.0,
        none_within-append log extra least told.place user within t.1,
        t.2,
        stands-append found log extra told.place user number t.3,
        told_more log extra user none (number + 1) (least_after found told.place) more commands t.4,
      )

  -- One answer more, at the end of the history: what was told before, and of the next command this reply at this place,
  -- after which the history goes on by that command's entry, or not at all.
  pub told_one : (log extra : List (Entry T)) (user number least : ℕ) (told : List (Told R)) (commands : List K) (command : K) (one : Told R) (found : Effect T R)
      → ToldFrom effect after first log user number least told commands
      → slice_get commands (length told) ≡ Some command
      → one.place ≡ length log
      → effect (content_after after first log) command ≡ found
      → one.reply ≡ reply_of found
      → Stands found (log ++ extra) (length log) user (length told + number)
      → NoneFrom (log ++ extra) (least_after found (length log)) user
      → ToldFrom effect after first (log ++ extra) user number least (told ++ one ∷ []) commands
  told_one log extra user number least [] [] command one found t is at e reply stands none = cc
  told_one log extra user number least [] (next ∷ commands) command one found t is at e reply stands none =
      let same : next ≡ command = cc in
      let here : effect (version after first (log ++ extra) one.place) next ≡ found = rw (at, version-all after first log extra, same) e in
      let number' : length {A = Told R} [] + number ≡ number = omega arith in
      rw (here, at) (
        t.0,
        none_within-from log extra least user t.1,
        reply,
        rw number' at stands,
        (least_after_le found (log ++ extra) (length log) user (length {A = Told R} [] + number) stands, none),
      )
  told_one log extra user number least (earlier ∷ told) [] command one found t is at e reply stands none = absurd t
  told_one log extra user number least (earlier ∷ told) (next ∷ commands) command one found t is at e reply stands none =
      let before = effect (version after first log earlier.place) next in
      let within : earlier.place ≤ length log = omega (arith, place_le before earlier.place, least_after_le before log earlier.place user number t.3) in
      let shift : length (earlier ∷ told) + number ≡ length told + (number + 1) = omega arith in
      rw (version-append after first log extra earlier.place within) (
        t.0,
        none_within-append log extra least earlier.place user within t.1,
        t.2,
        stands-append before log extra earlier.place user number t.3,
        told_one log extra user (number + 1) (least_after before earlier.place) told commands command one found t.4 is at e reply (rw shift at stands) none,
      )

  -- a reading or refused command is told at the end of the history, which stays
  pub run_told : (log : List (Entry T)) (user : ℕ) (told : List (Told R)) (commands : List K) (command : K) (one : Told R) (found : Effect T R)
      → RunSoFar effect after first log user told commands
      → slice_get commands (length told) ≡ Some command
      → one.place ≡ length log
      → effect (content_after after first log) command ≡ found
      → one.reply ≡ reply_of found
      → least_after found (length log) ≡ length log
      → RunSoFar effect after first log user (told ++ one ∷ []) commands
  run_told log user told commands command one (Commit writes reply) t is at e same stays =
      let never : length log + 1 ≡ length log = stays in absurd (omega arith)
  run_told log user told commands command one (Rejected reply) t is at e same stays =
      let nothing : log ++ [] ≡ log = append-nil log in
      let none : NoneFrom (log ++ []) (length log) user = rw nothing (none_at_end log user) in
      rw nothing at (told_one log [] user 1 0 told commands command one (Rejected reply) t is at e same (rw nothing (omega arith)) none)
  run_told log user told commands command one (Read reply) t is at e same stays =
      let nothing : log ++ [] ≡ log = append-nil log in
      let none : NoneFrom (log ++ []) (length log) user = rw nothing (none_at_end log user) in
      rw nothing at (told_one log [] user 1 0 told commands command one (Read reply) t is at e same (rw nothing (omega arith)) none)

  -- an accepted command is told at the end of the history, which goes on by its entry
  pub run_committed : (log : List (Entry T)) (user : ℕ) (told : List (Told R)) (commands : List K) (command : K) (one : Told R) (entry : Entry T) (reply : R)
      → RunSoFar effect after first log user told commands
      → slice_get commands (length told) ≡ Some command
      → one.place ≡ length log
      → effect (content_after after first log) command ≡ Commit entry.writes reply
      → one.reply ≡ reply
      → entry.user ≡ user
      → entry.command ≡ length told + 1
      → RunSoFar effect after first (log ++ entry ∷ []) user (told ++ one ∷ []) commands
  run_committed log user told commands command one entry reply t is at e same own number =
      let stands : slice_get (log ++ entry ∷ []) (length log) ≡ Some (record { user = user; command = length told + 1; writes = entry.writes }) =
      get_end log entry ∙ ap Some (ap (λ (u : ℕ). entry_of u entry.command entry.writes) own ∙ ap (λ (n : ℕ). entry_of user n entry.writes) number) in
      told_one log (entry ∷ []) user 1 0 told commands command one (Commit entry.writes reply) t is at e same stands (none_past_end log entry user)

  -- another user's entry changes nothing of the run
  pub run_beside : (log : List (Entry T)) (user : ℕ) (told : List (Told R)) (commands : List K) (entry : Entry T)
      → RunSoFar effect after first log user told commands → entry.user ≢ user → RunSoFar effect after first (log ++ entry ∷ []) user told commands
  run_beside log user told commands entry t other =
      told_more log (entry ∷ []) user (none_in_one entry user other) 1 0 told commands t

  -- before the first command is told: the user has no entry
  pub run_starts : (log : List (Entry T)) (user : ℕ) (commands : List K) → NoneFrom log 0 user → RunSoFar effect after first log user [] commands
  run_starts log user commands none = (omega arith, none)

  -- commands that are given later change nothing of what was told
  pub told_given : (log : List (Entry T)) (user number least : ℕ) (told : List (Told R)) (commands more : List K)
      → ToldFrom effect after first log user number least told commands → ToldFrom effect after first log user number least told (commands ++ more)
  told_given log user number least [] commands more t = t
  told_given log user number least (one ∷ told) [] more t = absurd t
  told_given log user number least (one ∷ told) (command ∷ commands) more t =
      (t.0, t.1, t.2, t.3, told_given log user (number + 1) (least_after (effect (version after first log one.place) command) one.place) told commands more t.4)
