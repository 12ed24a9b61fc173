-- The rule: what the words, the slot and the passes hold between any two steps. The first word is 1 while some pass has
-- the turn, the second is the length of the history, and the slot has the ledger, unless a pass has it out.
use Rattle.std.specs.Prelude.{◌≡◌, ℕ, ◌<◌, Bool, true, false, List, [], ◌∷◌, length, Option, Some, None, slice_get, ⊤}
use mathlib.Core.Option as maybe
use lib.ListN.{get_elem?}
use Rattle.atomic_table.specs.Table.{State}
use Rattle.history.specs.declared.entry.Entry.{Entry}
use Rattle.version_book.specs.declared.pass_view.PassView.{PassView}
use Rattle.version_book.specs.declared.pass_view.Older.{Older}
use Rattle.version_book.specs.declared.pass_view.Stage.{Stage}
use Rattle.version_book.specs.declared.pass_view.Stage.TheVariants.{Idle, Turn, Looked, Away}
use Rattle.version_book.specs.Lists.{GoesOn}
use Rattle.version_book.specs.Numbers.{has, numbers}

-- whether a pass at this stage has the turn, and whether it has looked under it
abbrev pub has_turn : Stage → Bool
has_turn Idle = false
has_turn Turn = true
has_turn Looked = true
has_turn Away = true

abbrev pub has_looked : Stage → Bool
has_looked Idle = false
has_looked Turn = false
has_looked Looked = true
has_looked Away = true

-- the first word
abbrev pub turn_word : Stage → ℕ
turn_word Idle = 0
turn_word Turn = 1
turn_word Looked = 1
turn_word Away = 1

-- what the slot has at home
abbrev pub home : {L : Type 0} → Stage → L → maybe.Option (Option L)
home Idle ledger = maybe.some (Some ledger)
home Turn ledger = maybe.some (Some ledger)
home Looked ledger = maybe.some (Some ledger)
home Away ledger = maybe.none

-- the pass has the view and belongs to the book that was begun with this; a pass that was met into another one doesn't
abbrev pub LiveAt : {C T : Type 0} → C → List (PassView C T) → ℕ → PassView C T → Type 0
LiveAt key views id view = (get_elem? views id ≡ maybe.some view) × (view.opening ≡ Some key)

-- these numbers are among those
abbrev pub Among : List ℕ → List ℕ → Type 0
Among few many = (n : ℕ) → has few n ≡ true → has many n ≡ true

-- what a pass has seen is the beginning of the history, which goes on without it
pub record Fits {C T : Type 0} (log : List (Entry T)) (view : PassView C T) : Type 0 where
  pub seen : GoesOn view.seen log (numbers view)
  pub older : (k : ℕ) (old : Older T) → slice_get view.older k ≡ Some old → GoesOn old.seen log old.numbers
  pub among : (k : ℕ) (old : Older T) → slice_get view.older k ≡ Some old → Among old.numbers (numbers view)
  pub whole : has_looked view.stage ≡ true → view.seen ≡ log

-- no entry and no pass has a number at or above the next one
pub record IsNext {C T : Type 0} (key : C) (log : List (Entry T)) (views : List (PassView C T)) (next : ℕ)
    : Type 0 where
  pub entries : (p : ℕ) (entry : Entry T) → slice_get log p ≡ Some entry → entry.user < next
  pub passes : (id : ℕ) (view : PassView C T) (n : ℕ) → LiveAt key views id view → has (numbers view) n ≡ true
      → n < next

-- the ledger at home has the history
abbrev pub Keeps : {L C T : Type 0} → (L → List (Entry T)) → (L → C) → C → Stage → L → List (Entry T) → Type 0
Keeps log_of opens key Idle ledger log = (log_of ledger ≡ log) × (opens ledger ≡ key)
Keeps log_of opens key Turn ledger log = (log_of ledger ≡ log) × (opens ledger ≡ key)
Keeps log_of opens key Looked ledger log = (log_of ledger ≡ log) × (opens ledger ≡ key)
Keeps log_of opens key Away ledger log = ⊤

pub record IsBook {L C T : Type 0} (log_of : L → List (Entry T)) (opens : L → C) (key : C)
    (s : State (Option L) (PassView C T)) : Type 0 where
  pub stage : Stage
  pub holder : ℕ
  pub log : List (Entry T)
  pub ledger : L
  pub words : s.words ≡ turn_word stage ∷ length log ∷ []
  pub homes : s.homes ≡ home stage ledger ∷ []
  pub keeps : Keeps log_of opens key stage ledger log
  -- where the turn is taken a pass has it, at that stage, and no other pass has it
  pub there : has_turn stage ≡ true → (view : PassView C T) × LiveAt key s.views holder view × (view.stage ≡ stage)
  pub alone : (id : ℕ) (view : PassView C T) → LiveAt key s.views id view → has_turn view.stage ≡ true
      → (id ≡ holder) × (view.stage ≡ stage)
  pub fits : (id : ℕ) (view : PassView C T) → LiveAt key s.views id view → Fits log view
  -- no number is of two passes
  pub apart : (id other : ℕ) (v w : PassView C T) (n : ℕ) → LiveAt key s.views id v → LiveAt key s.views other w
      → has (numbers v) n ≡ true → has (numbers w) n ≡ true → id ≡ other
  -- at most one pass gives numbers
  pub one : (id other : ℕ) (v w : PassView C T) (n m : ℕ) → LiveAt key s.views id v → LiveAt key s.views other w
      → v.next ≡ Some n → w.next ≡ Some m → id ≡ other
  pub next : (id : ℕ) (view : PassView C T) (n : ℕ) → LiveAt key s.views id view → view.next ≡ Some n
      → IsNext key log s.views n

-- the first pass: it has seen nothing, and gives the numbers from 1 on
abbrev pub founder : {C T : Type 0} → C → PassView C T
founder key =
    record {
      number = 0;
      joined = [];
      opening = Some key;
      seen = [];
      older = [];
      looks = 0;
      stage = Idle;
      next = Some 1;
    }

-- what is left of a pass that was met into another one
abbrev pub nobody : {C T : Type 0} → PassView C T
nobody = record { number = 0; joined = []; opening = None; seen = []; older = []; looks = 0; stage = Idle; next = None }
