-- What each step changes of what the rule knows of a pass, and what it tells.
use Rattle.std.specs.Prelude.{◌≡◌, ℕ, ◌+◌, ltb, ◌==◌, ◌++◌, List, [], ◌∷◌, length, Option, Some, None}
use Rattle.std.specs.Prelude.{option_map, slice_get, if◌then◌else◌}
use Rattle.atomic_table.specs.Table.{Step, Me, rest}
use Rattle.history.specs.declared.entry.Entry.{Entry}
use Rattle.version_book.specs.declared.pass_view.PassView.{PassView}
use Rattle.version_book.specs.declared.pass_view.Older.{Older}
use Rattle.version_book.specs.declared.pass_view.Stage.{Stage}
use Rattle.version_book.specs.declared.pass_view.Stage.TheVariants.{Idle, Turn, Looked, Away}
use Rattle.version_book.specs.Lists.{GoesOn}
use Rattle.version_book.specs.Numbers.{numbers, next_of_both}

abbrev pub number_given : Option ℕ → ℕ
number_given None = 0
number_given (Some n) = n

abbrev pub longer : {T : Type 0} → List (Entry T) → List (Entry T) → List (Entry T)
longer one other = if ltb (length one) (length other) then other else one

-- the history of the ledger that is out
abbrev pub log_held : {L T : Type 0} → (L → List (Entry T)) → List (ℕ × Option L) → List (Entry T)
log_held log_of [] = []
log_held log_of ((slot, None) ∷ more) = []
log_held log_of ((slot, Some ledger) ∷ more) = log_of ledger

module _ {C T : Type 0} where
  abbrev pub staged : PassView C T → Stage → PassView C T
  staged v stage = record v { stage = stage }

  -- it has seen the whole history under its turn; what it had seen is an older list
  abbrev pub saw : PassView C T → List (Entry T) → PassView C T
  saw v log =
      record v {
        seen = log;
        older = record { seen = v.seen; numbers = numbers v } ∷ v.older;
        looks = v.looks + 1;
        stage = Looked;
      }

  -- the history that it has seen is now this, by its own entry
  abbrev pub grown : PassView C T → List (Entry T) → PassView C T
  grown v log = record v { seen = log; older = [] }

  -- it has given its next number, and the pass of that number has seen what it has seen
  abbrev pub giving : PassView C T → PassView C T
  giving v = record v { next = option_map (λ n. n + 1) v.next }

  abbrev pub another : PassView C T → PassView C T
  another v =
      record {
        number = number_given v.next;
        joined = [];
        opening = v.opening;
        seen = v.seen;
        older = [];
        looks = 0;
        stage = Idle;
        next = None;
      }

  -- it has the numbers of both, and has seen the longer list; each list is an older one with the numbers of its pass
  abbrev pub together : PassView C T → PassView C T → PassView C T
  together v w =
      record v {
        joined = v.joined ++ numbers w;
        seen = longer v.seen w.seen;
        older = record { seen = v.seen; numbers = numbers v } ∷ record { seen = w.seen; numbers = numbers w } ∷ [];
        next = next_of_both v.next w.next;
      }

abbrev pub PassSeat : Type 0 → Type 0 → Type 0 → Type 0
PassSeat L C T = Me (Option L) (PassView C T)

module _ {L C T : Type 0} where
  -- an exchange of 0 for 1 in the first word: it has the turn where the word was 0
  abbrev pub turns : Step (Option L) → PassSeat L C T → ℕ → PassSeat L C T → Type 0
  turns st m n m' = m' ≡ (if n == 0 then staged m.0 Turn else m.0, m.1)

  -- a load of the second word: the history has this length, and goes on from all that was seen
  abbrev pub looks : Step (Option L) → PassSeat L C T → ℕ → PassSeat L C T → Type 0
  looks st m n m' =
      (m' ≡ (saw m.0 m'.0.seen, m.1)) × (n ≡ length m'.0.seen) × GoesOn m.0.seen m'.0.seen (numbers m.0)
      × ((k : ℕ) (old : Older T) → slice_get m.0.older k ≡ Some old → GoesOn old.seen m'.0.seen old.numbers)

  -- a load of the first word, by which the ledger comes out: it has the history that was seen
  abbrev pub takes_ledger : (L → List (Entry T)) → (L → C) → Step (Option L) → PassSeat L C T → ℕ
      → PassSeat L C T → Type 0
  takes_ledger log_of opens st m n m' =
      (ledger : L) × (m' ≡ (staged m.0 Away, (0, Some ledger) ∷ m.1)) × (log_of ledger ≡ m.0.seen)
      × ((key : C) → m.0.opening ≡ Some key → opens ledger ≡ key)

  -- a store of the second word: the history is that of the ledger that is out
  abbrev pub counts : (L → List (Entry T)) → Step (Option L) → PassSeat L C T → ℕ → PassSeat L C T → Type 0
  counts log_of st m n m' = m' ≡ (grown m.0 (log_held log_of m.1), m.1)

  -- a load of the first word, by which the ledger goes back
  abbrev pub puts : Step (Option L) → PassSeat L C T → ℕ → PassSeat L C T → Type 0
  puts st m n m' = m' ≡ (staged m.0 Looked, rest m.1)

  -- a store of 0 in the first word
  abbrev pub frees : Step (Option L) → PassSeat L C T → ℕ → PassSeat L C T → Type 0
  frees st m n m' = m' ≡ (staged m.0 Idle, m.1)

-- between the looks and the end of a turn only what was seen may change
pub record Stays {C T : Type 0} (v w : PassView C T) : Type 0 where
  pub number : w.number ≡ v.number
  pub joined : w.joined ≡ v.joined
  pub next : w.next ≡ v.next
  pub looks_same : w.looks ≡ v.looks
