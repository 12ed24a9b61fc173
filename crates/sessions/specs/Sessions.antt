-- What holds of a session at a book, before and after each command. Everywhere `answer` is what a command does on a
-- content and on its user's layer, with the next layer; `after` is what writes make of a content, and `content` what a
-- state means. `unfit` tells why a layer can't be laid over a content, and `kept` which writes are kept of a sandbox.
use Rattle.std.specs.Prelude.{◌≡◌, ◌≤◌, List, [], ◌∷◌, Option, None, length}
use Rattle.std.specs.declared.snapshot.Snapshot.{Snapshot}
use Rattle.history.specs.declared.effect.Effect.{Effect}
use Rattle.history.specs.declared.entry.Entry.{Entry}
use Rattle.history.specs.Version.{version}
use Rattle.layers.specs.Layered.{LayeredSoFar, layer_after}
use Rattle.sandbox.specs.Sandboxes.{IsLaid}
use Rattle.version_book.specs.declared.pass_view.PassView.{PassView}
use Rattle.version_book.specs.declared.book.BookOf.{BookOf}
use Rattle.version_book.specs.Passes.{IsOf, numbers_of, opening_of, seen}
use Rattle.sessions.specs.Answers.{HasLooked, layer_of, sight}
use Rattle.sessions.specs.declared.own.OwnOf.{OwnOf}
use Rattle.sessions.specs.declared.session.SessionOf.{SessionOf}

-- a private state that the user has is of the version that it was laid over, with the user's layer
pub record IsLaidAt {S C T R Y : Type 0} (content : S → C) (after : C → T → C) (unfit : C → T → Option R) (kept : Y → T)
    (first : C) (log : List (Entry T)) (own : OwnOf Y S) : Type 0 where
  pub within : own.laid_at ≤ length log
  pub laid : IsLaid content after unfit kept (version after first log own.laid_at) own.sandbox

-- The session is of this book and acts under its user's number alone. The replies so far are the user's run of the
-- history that its pass has seen, from no layer on; the session has the layer after them, and its private state is of
-- that; and each was decided by a look of its own.
pub record IsRunning {H S C K T R Q Y : Type 0} (answer : C → Option T → K → Effect T R × Option T)
    (after : C → T → C) (content : S → C) (unfit : C → T → Option R) (kept : Y → T)
    (book : BookOf H (PassView S T) (Snapshot S) Q) (session : SessionOf H S T K R Y) : Type 0 where
  pub of : IsOf book session.pass
  pub number : numbers_of session.pass ≡ session.user ∷ []
  pub run : LayeredSoFar answer after (content (opening_of book)) (seen session.pass) session.user None
      session.told.items session.commands
  pub layer : layer_of kept session ≡ layer_after answer after (content (opening_of book)) (seen session.pass) None
      session.told.items session.commands
  pub laid : IsLaidAt content after unfit kept (content (opening_of book)) (seen session.pass) session.own
  pub looked : HasLooked answer after (content (opening_of book)) session.user session.told.items session.commands
      (sight session.pass) (layer_of kept session)
