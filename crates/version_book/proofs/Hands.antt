-- What a seat has in hand between its steps, and what a meeting looks at.
use Rattle.std.proofs.Common.{◌≡◌, ℕ, List, [], ◌∷◌, Some, None, sym, ap, ◌∙◌}
use Rattle.std.specs.List.{slice_get}
use Rattle.atomic_table.specs.Table.{rest}
use Rattle.history.specs.declared.entry.Entry.{Entry}
use Rattle.version_book.specs.declared.pass_view.PassView.{PassView}
use Rattle.version_book.specs.declared.pass_view.Older.{Older}
use Rattle.version_book.specs.declared.pass_view.Stage.TheVariants.{Turn}
use Rattle.version_book.specs.Lists.{GoesOn}
use Rattle.version_book.specs.Numbers.{numbers}
use Rattle.version_book.specs.Inside.Plays.{PassSeat, staged, grown, log_held, together}

module _ {L C T : Type 0} where
  pub laid_in : (me before : PassSeat L C T) (ledger : L) → before.1 ≡ (0, None) ∷ [] → me ≡ (before.0, (0, Some ledger) ∷ rest before.1) → me ≡ (before.0, (0, Some ledger) ∷ [])
  laid_in me before ledger empty laid = laid ∙ ap (λ xs. (before.0, (0, Some ledger) ∷ rest xs)) empty

  pub counted_in : (log_of : L → List (Entry T)) (me before : PassSeat L C T) (v : PassView C T) (ledger : L) → before ≡ (v, (0, Some ledger) ∷ [])
      → me ≡ (grown before.0 (log_held log_of before.1), before.1) → me ≡ (grown v (log_of ledger), (0, Some ledger) ∷ [])
  counted_in log_of me before v ledger laid counted = counted ∙ ap (λ (m : PassSeat L C T). (grown m.0 (log_held log_of m.1), m.1)) laid

pub held_first : {S : Type 0} (xs more : List (ℕ × S)) (x : ℕ × S) → xs ≡ x ∷ more → xs ≡ x ∷ rest xs
held_first xs more x is = is ∙ ap (λ ys. x ∷ rest ys) (sym is)

module _ {C T : Type 0} where
  -- after the look of a meeting both lists go on to what was seen
  pub met_by : (v w m : PassView C T) (log : List (Entry T)) → m ≡ staged (together v w) Turn
      → ((k : ℕ) (old : Older T) → slice_get m.older k ≡ Some old → GoesOn old.seen log old.numbers)
      → GoesOn v.seen log (numbers v) × GoesOn w.seen log (numbers w)
  met_by v w m log is goes = (
    goes 0 (record { seen = v.seen; numbers = numbers v }) (ap (λ (x : PassView C T). slice_get x.older 0) is),
    goes 1 (record { seen = w.seen; numbers = numbers w }) (ap (λ (x : PassView C T). slice_get x.older 1) is),
  )
