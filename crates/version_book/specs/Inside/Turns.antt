-- A place whose pass has the turn.
use Rattle.std.specs.Prelude.{◌≡◌, Option, []}
use Rattle.std.specs.declared.snapshot.Snapshot.{Snapshot}
use Rattle.atomic_table.specs.declared.shared.Seat.{Seat}
use Rattle.version_book.specs.declared.pass_view.PassView.{PassView}
use Rattle.version_book.specs.declared.pass_view.Stage.TheVariants.{Looked}
use Rattle.version_book.specs.declared.book.BookOf.{BookOf}
use Rattle.version_book.specs.Passes.{IsAt}

-- a place at this book whose pass has seen the whole history under its turn, and holds nothing
pub record HasLooked {L C T Q : Type 0} (book : BookOf L (PassView C T) (Snapshot C) Q)
    (place : Seat (Option L) (PassView C T)) : Type 0 where
  pub at : IsAt book place
  pub looked : place.me.0.stage ≡ Looked
  pub hand : place.me.1 ≡ []
