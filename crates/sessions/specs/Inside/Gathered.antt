-- From the passes of all sessions to one, and back.
use Rattle.std.specs.Prelude.{◌≡◌, ℕ, ◌≤◌, true, List, [], ◌∷◌, Option, None, Some, length}
use Rattle.std.specs.declared.snapshot.Snapshot.{Snapshot}
use Rattle.history.specs.declared.entry.Entry.{Entry}
use Rattle.history.specs.declared.told.Told.{Told}
use Rattle.history.specs.declared.effect.Effect.{Effect}
use Rattle.history.specs.Version.{NoneFrom}
use Rattle.layers.specs.Laws.{EachLayeredRun}
use Rattle.version_book.specs.declared.pass_view.PassView.{PassView}
use Rattle.version_book.specs.declared.book.BookOf.{BookOf}
use Rattle.version_book.specs.declared.book.PassOf.{PassOf}
use Rattle.version_book.specs.Numbers.{has}
use Rattle.version_book.specs.Passes.{next_of, numbers_of, seen}
use Rattle.sessions.specs.declared.session.SessionOf.{SessionOf}
use Rattle.sessions.specs.Sessions.{IsRunning}

-- the pass that gives the numbers, from this one on: it is no user's, and has seen nothing
pub record IsGiver {L C T : Type 0} (pass : PassOf L C T) (next : ℕ) : Type 0 where
  pub numbers : numbers_of pass ≡ 0 ∷ []
  pub seen_none : seen pass ≡ []
  pub gives : next_of pass ≡ Some next

-- the session has run on with the same commands
pub record IsFurther {H S C K T R Q Y : Type 0} (answer : C → Option T → K → Effect T R × Option T)
    (after : C → T → C) (content : S → C) (unfit : C → T → Option R) (kept : Y → T)
    (book : BookOf H (PassView S T) (Snapshot S) Q) (before later : SessionOf H S T K R Y) : Type 0 where
  pub running : IsRunning answer after content unfit kept book later
  pub user : later.user ≡ before.user
  pub commands : later.commands ≡ before.commands

-- These users' passes were brought together with the giver's: the numbers are those from 0 to the last user's, the
-- giver has no entry, and each user has the replies to all its commands.
pub record IsGathered {C K T R : Type 0} (answer : C → Option T → K → Effect T R × Option T) (after : C → T → C)
    (first : C) (users : List (List K)) (told : List (List (Told R))) (numbers : List ℕ) (log : List (Entry T))
    : Type 0 where
  pub below : (number : ℕ) → number ≤ length users → has numbers number ≡ true
  pub only : (number : ℕ) → has numbers number ≡ true → number ≤ length users
  pub giver : NoneFrom log 0 0
  pub all : length told ≡ length users
  pub runs : EachLayeredRun answer after first None users told log
