-- Which cells are stored after writes.
use Rattle.std.proofs.Common.{◌≡◌, ◌≢◌, refl, sym, ◌∙◌, ap, ap₂, arith, ℕ, ℤ, Bool, true, false, ◌&&◌, ◌||◌, true≢false, cond, eqb, ne_eqb, lt-ltb, List, [], ◌∷◌, ◌++◌, map, filter, ◌⊎◌, inl, inr, ◌<◌, ◌≤◌, Some}
use Rattle.std.specs.Prelude.{nat_lt, pos, is_some, option_map, find}
use Rattle.std.specs.Ordering.{int_eq}
use Rattle.std.proofs.lemmas.Bool.{cases_lt, and_right}
use Rattle.std.proofs.lemmas.Bool.Decides.{eqb_tells}
use Rattle.std.proofs.lemmas.List.Folds.{list_any-append}
use Rattle.cell_store.specs.declared.entry.Entry.{Entry}
use Rattle.cell_store.specs.Entries.{cells_of, below, above, kept_of, with_write, after_writes}
use Rattle.lists.proofs.Rising.{among}
use Rattle.stored_laws.specs.Stored.{stored_in}

-- whether a cell is stored
abbrev pub has : ℕ → List Entry → Bool
has c es = among c (cells_of es)

-- the entries whose cells pass have a cell where it passes and is stored
module _ (q : ℕ → Bool) where
  pub filtered : (c : ℕ) (es : List Entry) → has c (filter (λ entry. q entry.cell) es) ≡ (q c && has c es)
  filtered c [] = sym (and_right (q c) false refl)
  filtered c (e ∷ es) = by c e es (filtered c es) (q e.cell) refl (eqb_tells e.cell c)
    where
      by : (c : ℕ) (e : Entry) (es : List Entry) → has c (filter (λ entry. q entry.cell) es) ≡ (q c && has c es)
          → (b : Bool) → q e.cell ≡ b → ((eqb e.cell c ≡ true) × (e.cell ≡ c)) ⊎ ((eqb e.cell c ≡ false) × (e.cell ≡ c → ⊥))
          → has c (cond (q e.cell) (e ∷ filter (λ entry. q entry.cell) es) (filter (λ entry. q entry.cell) es)) ≡ (q c && (eqb e.cell c || has c es))
      by c e es later true passes (inl same) = let here : q c ≡ true = sym (ap q same.1) ∙ passes in rw (passes, same.0, here) refl
      by c e es later true passes (inr apart) = rw (passes, apart.0) later
      by c e es later false fails (inl same) = let here : q c ≡ false = sym (ap q same.1) ∙ fails in rw (fails, here) (later ∙ ap (λ b. b && has c es) here)
      by c e es later false fails (inr apart) = rw (fails, apart.0) later

cells_of-append : (es fs : List Entry) → cells_of (es ++ fs) ≡ cells_of es ++ cells_of fs
cells_of-append [] fs = refl
cells_of-append (e ∷ es) fs = ap (λ cs. e.cell ∷ cs) (cells_of-append es fs)

has-append : (c : ℕ) (es fs : List Entry) → has c (es ++ fs) ≡ (has c es || has c fs)
has-append c es fs = ap (among c) (cells_of-append es fs) ∙ list_any-append (λ x. eqb x c) (cells_of es) (cells_of fs)

-- a number that is kept in one cell is kept in no other
kept_apart : (c cell : ℕ) (number : ℤ) → cell ≢ c → has c (kept_of cell number) ≡ false
kept_apart c cell number apart = by (int_eq number (pos 0))
  where
    by : (b : Bool) → has c (cond b [] (record { cell = cell; number = number } ∷ [])) ≡ false
    by true = refl
    by false = rw (ne_eqb cell c apart) refl

-- a write leaves what other cells have stored
written_apart : (c cell : ℕ) (number : ℤ) (es : List Entry) → cell ≢ c → has c (with_write es cell number) ≡ has c es
written_apart c cell number es apart =
    has-append c (below es cell) (kept_of cell number ++ above es cell)
    ∙ ap₂ ◌||◌ (filtered (λ x. nat_lt x cell) c es)
    (has-append c (kept_of cell number) (above es cell) ∙ ap₂ ◌||◌ (kept_apart c cell number apart) (filtered (λ x. nat_lt cell x) c es))
    ∙ by_side (cases_lt c cell)
  where
    by_side : (c < cell) ⊎ (cell ≤ c) → ((nat_lt c cell && has c es) || (false || (nat_lt cell c && has c es))) ≡ has c es
    by_side (inl low) = rw (lt-ltb c cell low) (either (has c es) (nat_lt cell c))
      where
        either : (a b : Bool) → (a || (b && a)) ≡ a
        either true b = refl
        either false true = refl
        either false false = refl
    by_side (inr high) = rw (lt-ltb cell c (omega (arith, high, apart))) (either (nat_lt c cell) (has c es))
      where
        either : (a b : Bool) → ((a && b) || b) ≡ b
        either true true = refl
        either true false = refl
        either false b = refl

-- so do many
pub untouched : (c : ℕ) (ws : List (ℕ × ℤ)) (es : List Entry) → among c (map (λ write. write.0) ws) ≡ false → has c (after_writes es ws) ≡ has c es
untouched c [] es none = refl
untouched c (w ∷ ws) es none = by (λ rest. untouched c ws (with_write es w.0 w.1) rest) (eqb_tells w.0 c)
  where
    by : (among c (map (λ write. write.0) ws) ≡ false → has c (after_writes (with_write es w.0 w.1) ws) ≡ has c (with_write es w.0 w.1))
        → ((eqb w.0 c ≡ true) × (w.0 ≡ c)) ⊎ ((eqb w.0 c ≡ false) × (w.0 ≡ c → ⊥)) → has c (after_writes (with_write es w.0 w.1) ws) ≡ has c es
    by later (inl same) = absurd (true≢false (sym (ap (λ b. b || among c (map (λ write. write.0) ws)) same.0) ∙ none))
    by later (inr apart) = later (sym (ap (λ b. b || among c (map (λ write. write.0) ws)) apart.0) ∙ none) ∙ written_apart c w.0 w.1 es apart.1

-- a cell is stored where it has a number
pub stored_is : (c : ℕ) (es : List Entry) → is_some (stored_in es c) ≡ has c es
unfolding stored_in
stored_is c [] = refl
stored_is c (e ∷ es) = by (stored_is c es) (eqb e.cell c)
  where
    by : is_some (option_map (λ entry. entry.number) (find (λ entry. eqb entry.cell c) es)) ≡ has c es
        → (b : Bool) → is_some (option_map (λ entry. entry.number) (cond b (Some e) (find (λ entry. eqb entry.cell c) es))) ≡ (b || has c es)
    by later true = refl
    by later false = later
