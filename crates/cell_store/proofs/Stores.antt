-- The entries of a store after writes.
use Rattle.std.proofs.Common.{◌≡◌, ◌≢◌, ℕ, ℤ, pos, Bool, true, false, cond, List, [], ◌∷◌, ◌++◌, map, All, refl, sym, ◌∙◌, ltb}
use Rattle.std.specs.Ordering.{int_eq}
use Rattle.std.proofs.lemmas.Bool.Decides.{Decides-int_eq, not_from_Decides}
use Rattle.std.proofs.lemmas.List.Elements.{All-append, All-filter, All-nil, All-cons}
use Rattle.cell_store.specs.declared.entry.Entry.{Entry}
use Rattle.cell_store.specs.Entries.{cells_of, IsStore, below, above, kept_of, with_write, after_writes}
use Rattle.cell_store.specs.Inside.Order.{last_at, after_entries}
use Rattle.cell_store.specs.Inside.Entries.{cell_of, is_zero, entry_of}
use Rattle.cell_store.proofs.Rising.{Rises-from_increasing, increasing_from_Rises}
use Rattle.cell_store.proofs.Edits.{in_order-after}
use Rattle.cell_store.proofs.LastWrites.{after-last}

-- writes are entries
pub after_writes-entries : (es : List Entry) (ws : List (ℕ × ℤ)) → after_writes es ws ≡ after_entries cell_of is_zero es (map entry_of ws)
after_writes-entries es [] = refl
after_writes-entries es (w ∷ ws) = after_writes-entries (with_write es w.0 w.1) ws

abbrev NotZero : Entry → Type 0
NotZero e = e.number ≢ pos 0

kept-no_zeros_by : (c : ℕ) (v : ℤ) (b : Bool) → (b ≡ false → v ≢ pos 0) → All NotZero (cond b [] (record { cell = c; number = v } ∷ []))
kept-no_zeros_by c v true not_zero = All-nil NotZero
kept-no_zeros_by c v false not_zero = All-cons NotZero (record { cell = c; number = v }) [] (not_zero refl) (All-nil NotZero)

kept-no_zeros : (c : ℕ) (v : ℤ) → All NotZero (kept_of c v)
kept-no_zeros c v = kept-no_zeros_by c v (int_eq v (pos 0)) (λ fails. not_from_Decides (int_eq v (pos 0)) (Decides-int_eq v (pos 0)) fails)

with-no_zeros : (es : List Entry) (c : ℕ) (v : ℤ) → All NotZero es → All NotZero (with_write es c v)
with-no_zeros es c v all =
    All-append NotZero (below es c) (kept_of c v ++ above es c) (All-filter (λ e. ltb e.cell c) NotZero es all) (All-append NotZero (kept_of c v) (above es c) (kept-no_zeros c v) (All-filter (λ e. ltb c e.cell) NotZero es all))

after-no_zeros : (es : List Entry) (ws : List (ℕ × ℤ)) → All NotZero es → All NotZero (after_writes es ws)
after-no_zeros es [] all = all
after-no_zeros es (w ∷ ws) all = after-no_zeros (with_write es w.0 w.1) ws (with-no_zeros es w.0 w.1 all)

pub IsStore-after_writes : (es : List Entry) (ws : List (ℕ × ℤ)) → IsStore es → IsStore (after_writes es ws)
IsStore-after_writes es ws store = record {
  rising = rw (after_writes-entries es ws) (increasing_from_Rises (map cell_of (after_entries cell_of is_zero es (map entry_of ws))) (in_order-after cell_of is_zero es (map entry_of ws) (Rises-from_increasing (cells_of es) store.rising)));
  no_zeros = after-no_zeros es ws store.no_zeros;
}

-- the last writes give the same entries as all
pub after-last_entries : (es last : List Entry) (ws : List (ℕ × ℤ)) → IsStore es → ((k : ℕ) → last_at cell_of last k ≡ last_at cell_of (map entry_of ws) k) → after_entries cell_of is_zero es last ≡ after_writes es ws
after-last_entries es last ws store same =
    after-last cell_of is_zero es last (map entry_of ws) (Rises-from_increasing (cells_of es) store.rising) same ∙ sym (after_writes-entries es ws)
