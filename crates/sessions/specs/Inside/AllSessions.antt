-- What holds of all sessions of a book at once.
use Rattle.std.specs.Prelude.{◌≡◌, ℕ, ◌+◌, List, Option, Some, length, map, slice_get}
use Rattle.std.specs.declared.snapshot.Snapshot.{Snapshot}
use Rattle.history.specs.declared.effect.Effect.{Effect}
use Rattle.version_book.specs.declared.pass_view.PassView.{PassView}
use Rattle.version_book.specs.declared.book.BookOf.{BookOf}
use Rattle.sessions.specs.declared.session.SessionOf.{SessionOf}
use Rattle.sessions.specs.Sessions.{IsRunning}

-- each session runs at this book, that at index i for the user of number i + 1
abbrev pub AreRunning : {H S C T K R Q Y : Type 0} → (C → Option T → K → Effect T R × Option T) → (C → T → C)
    → (S → C) → (C → T → Option R) → (Y → T)
    → BookOf H (PassView S T) (Snapshot S) Q → List (SessionOf H S T K R Y) → Type 0
AreRunning {H = H} {S = S} {T = T} {K = K} {R = R} {Y = Y} answer after content unfit kept book sessions =
    (index : ℕ) (session : SessionOf H S T K R Y) → slice_get sessions index ≡ Some session
    → IsRunning answer after content unfit kept book session × (session.user ≡ index + 1)

-- no command of the session is left
abbrev pub HasAnsweredAll : {L S T K R Y : Type 0} → SessionOf L S T K R Y → Type 0
HasAnsweredAll session = length session.told.items ≡ length session.commands

-- the commands of all users
abbrev pub commands_of : {L S T K R Y : Type 0} → List (SessionOf L S T K R Y) → List (List K)
commands_of sessions = map (λ session. session.commands) sessions
