-- What clauses say of a pass: who it is, and what it has seen of the history.
use Rattle.std.specs.Prelude.{◌≡◌, ℕ, List, [], ◌∷◌, Option, Some}
use Rattle.std.specs.declared.snapshot.Snapshot.{Snapshot}
use Rattle.atomic_table.specs.declared.shared.Seat.{Seat}
use Rattle.history.specs.declared.entry.Entry.{Entry}
use Rattle.version_book.specs.declared.pass_view.PassView.{PassView}
use Rattle.version_book.specs.declared.book.PassOf.{PassOf}
use Rattle.version_book.specs.declared.book.BookOf.{BookOf}
use Rattle.version_book.specs.Numbers.{numbers}

-- the state that the book was begun with
abbrev pub opening_of : {L D C Q : Type 0} → BookOf L D (Snapshot C) Q → C
opening_of book = book.table.shared.key.value

-- a place at this book
pub record IsAt {L C T Q : Type 0} (book : BookOf L (PassView C T) (Snapshot C) Q)
    (place : Seat (Option L) (PassView C T)) : Type 0 where
  pub table : place.table_id ≡ book.table.shared.table_id
  pub opening : place.me.0.opening ≡ Some (opening_of book)

-- the pass is of this book
abbrev pub IsOf : {L C T Q : Type 0} → BookOf L (PassView C T) (Snapshot C) Q → PassOf L C T → Type 0
IsOf book pass = IsAt book pass.place

-- the beginning of the history that the pass has seen
abbrev pub seen : {L C T : Type 0} → PassOf L C T → List (Entry T)
seen pass = pass.place.me.0.seen

-- the number under which it commits, and all its numbers: that one and those of the passes that were met into it
abbrev pub number_of : {L C T : Type 0} → PassOf L C T → ℕ
number_of pass = pass.place.me.0.number

abbrev pub numbers_of : {L C T : Type 0} → PassOf L C T → List ℕ
numbers_of pass = numbers pass.place.me.0

-- how often it has looked at the history that all share
abbrev pub looks : {L C T : Type 0} → PassOf L C T → ℕ
looks pass = pass.place.me.0.looks

-- the number of the next pass that is split from it, if it is the one that gives numbers
abbrev pub next_of : {L C T : Type 0} → PassOf L C T → Option ℕ
next_of pass = pass.place.me.0.next

-- a pass that has seen nothing and gives the numbers from 1 on
pub record IsFirst {L C T : Type 0} (pass : PassOf L C T) : Type 0 where
  pub number : number_of pass ≡ 0
  pub all : numbers_of pass ≡ 0 ∷ []
  pub seen_none : seen pass ≡ []
  pub no_look : looks pass ≡ 0
  pub next : next_of pass ≡ Some 1

-- who the pass is has not changed
pub record IsSame {L C T : Type 0} (before after : PassOf L C T) : Type 0 where
  pub number : number_of after ≡ number_of before
  pub all : numbers_of after ≡ numbers_of before
  pub next : next_of after ≡ next_of before
