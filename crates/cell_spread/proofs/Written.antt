-- What cells have after an amount was spread.
use Rattle.std.proofs.Common.{◌≡◌, ◌≢◌, refl, sym, ap, ◌∙◌, subst, arith, ℕ, suc, ◌<◌, inl, inr, Bool, true, false, cond, eqb, ltb, ℤ, pos, ◌+ℤ◌, List, [], ◌∷◌, ◌++◌, map, filter, Contains, append-nil}
use Rattle.std.specs.List.{AllZip, range_with_len}
use Rattle.std.specs.Ordering.{int_eq}
use Rattle.std.proofs.lemmas.Bool.{cases_lt}
use Rattle.std.proofs.lemmas.Bool.Decides.{Decides-int_eq, eqb_tells, nat_tests}
use Rattle.std.proofs.lemmas.Int.{ints}
use Rattle.std.proofs.lemmas.List.Kept.{IsStrictlyIncreasing-filter}
use Rattle.cube_space.specs.Layout.{Layout}
use Rattle.cube_space.specs.Cells.{size_of, is_leaf_cell}
use Rattle.cell_store.specs.declared.entry.Entry.{Entry}
use Rattle.cell_store.specs.Entries.{above, kept_of, number_at, with_write, after_writes}
use Rattle.cell_store.proofs.Numbers.{number_at-head, number_at-later}
use Rattle.cell_store.proofs.Rising.{AllAbove, Rises, Rises-from_increasing}
use Rattle.dim_weights.specs.Table.{is_nonzero, nonzero_among}
use Rattle.rule_model.specs.Weights.{weight, leaf_cells}
use Rattle.cell_spread.specs.Shares.{sum_of}
use Rattle.cell_spread.specs.Spread.{cells_below}
use Rattle.cell_spread.proofs.Walks.{range-rises}

-- ---- one write

-- entries that are kept by their cells, before others
module _ (p : ℕ → Bool) (k : ℕ) (more : List Entry) where
  abbrev kept : List Entry → List Entry
  kept es = filter (λ (e : Entry). p e.cell) es

  passed : p k ≡ true → number_at more k ≡ pos 0 → (es : List Entry) → number_at (kept es ++ more) k ≡ number_at es k
  passed passes none [] = none
  passed passes none (e ∷ es) =
      elim (eqb_tells e.cell k) [
        | inl t ↦ (let own : p e.cell ≡ true = ap p t.1 ∙ passes in rw (own, t.0) refl)
        | inr t ↦ by (p e.cell) t.0 (passed passes none es)
      ]
    where
      by : (b : Bool) → eqb e.cell k ≡ false → number_at (kept es ++ more) k ≡ number_at es k → number_at (cond b (e ∷ kept es) (kept es) ++ more) k ≡ number_at (e ∷ es) k
      by true other later = rw other later
      by false other later = rw other later

  dropped : p k ≡ false → (es : List Entry) → number_at (kept es ++ more) k ≡ number_at more k
  dropped fails [] = refl
  dropped fails (e ∷ es) =
      elim (eqb_tells e.cell k) [
        | inl t ↦ (let own : p e.cell ≡ false = ap p t.1 ∙ fails in rw own (dropped fails es))
        | inr t ↦ by (p e.cell) t.0 (dropped fails es)
      ]
    where
      by : (b : Bool) → eqb e.cell k ≡ false → number_at (kept es ++ more) k ≡ number_at more k → number_at (cond b (e ∷ kept es) (kept es) ++ more) k ≡ number_at more k
      by true other later = rw other later
      by false other later = later

none-left : (p : ℕ → Bool) (k : ℕ) → p k ≡ false → (es : List Entry) → number_at (filter (λ (e : Entry). p e.cell) es) k ≡ pos 0
none-left p k fails es = ap (λ (left : List Entry). number_at left k) (sym (append-nil (filter (λ (e : Entry). p e.cell) es))) ∙ dropped p k [] fails es

all-left : (p : ℕ → Bool) (k : ℕ) → p k ≡ true → (es : List Entry) → number_at (filter (λ (e : Entry). p e.cell) es) k ≡ number_at es k
all-left p k passes es = ap (λ (left : List Entry). number_at left k) (sym (append-nil (filter (λ (e : Entry). p e.cell) es))) ∙ passed p k [] passes refl es

module _ (c : ℕ) (n : ℤ) (more : List Entry) where
  own-kept : number_at more c ≡ pos 0 → number_at (kept_of c n ++ more) c ≡ n
  own-kept none = by (int_eq n (pos 0)) refl
    where
      by : (b : Bool) → int_eq n (pos 0) ≡ b → number_at (cond b [] (record { cell = c; number = n } ∷ []) ++ more) c ≡ n
      by true same = none ∙ sym ((Decides-int_eq n (pos 0)).0 same)
      by false other = number_at-head (record { cell = c; number = n }) more

  other-kept : (k : ℕ) → c ≢ k → number_at (kept_of c n ++ more) k ≡ number_at more k
  other-kept k other = by (int_eq n (pos 0))
    where
      by : (b : Bool) → number_at (cond b [] (record { cell = c; number = n } ∷ []) ++ more) k ≡ number_at more k
      by true = refl
      by false = number_at-later (record { cell = c; number = n }) more k other

number-written : (es : List Entry) (c : ℕ) (n : ℤ) → number_at (with_write es c n) c ≡ n
number-written es c n =
    let low : ltb c c ≡ false = grind (arith, nat_tests) in
    dropped (λ cell. ltb cell c) c (kept_of c n ++ above es c) low es ∙ own-kept c n (above es c) (none-left (λ cell. ltb c cell) c low es)

number-unwritten : (es : List Entry) (c : ℕ) (n : ℤ) (k : ℕ) → c ≢ k → number_at (with_write es c n) k ≡ number_at es k
number-unwritten es c n k other =
    elim (cases_lt k c) [
      | inl less ↦ (
          let low : ltb k c ≡ true = grind (arith, nat_tests) in
          let high : ltb c k ≡ false = grind (arith, nat_tests) in
          passed (λ cell. ltb cell c) k (kept_of c n ++ above es c) low (other-kept c n (above es c) k other ∙ none-left (λ cell. ltb c cell) k high es) es)
      | inr le ↦ (
          let more : c < k = omega arith in
          let low : ltb k c ≡ false = grind (arith, nat_tests) in
          let high : ltb c k ≡ true = grind (arith, nat_tests) in
          dropped (λ cell. ltb cell c) k (kept_of c n ++ above es c) low es ∙ (other-kept c n (above es c) k other ∙ all-left (λ cell. ltb c cell) k high es))
    ]

-- ---- many writes

-- none of these writes is of a cell
abbrev pub AreOthers : ℕ → List (ℕ × ℤ) → Type 0
AreOthers k [] = Unit {0}
AreOthers k (w ∷ ws) = (w.0 ≢ k) × AreOthers k ws

pub number-kept : (es : List Entry) (ws : List (ℕ × ℤ)) (k : ℕ) → AreOthers k ws → number_at (after_writes es ws) k ≡ number_at es k
number-kept es [] k others = refl
number-kept es (w ∷ ws) k others = number-kept (with_write es w.0 w.1) ws k others.1 ∙ number-unwritten es w.0 w.1 k others.0

pub others-from : (ws : List (ℕ × ℤ)) (k : ℕ) → (Contains (map (λ write. write.0) ws) k → ⊥) → AreOthers k ws
others-from [] k none = tt
others-from (w ∷ ws) k none =
    (λ same. none (0, omega arith, same), others-from ws k (λ has. none (suc has.0, (let low = has.1 in omega (arith, low)), has.2)))

-- ---- the writes of parts, in the order of their cells

-- as many writes, each of the cell of its part
abbrev pub OfCells : List (ℕ × ℤ) → List (ℕ × ℤ) → Type 0
OfCells parts ws = AllZip (λ (part : ℕ × ℤ) (w : ℕ × ℤ). w.0 ≡ part.0) parts ws

-- what these cells have together
abbrev pub total_at : List Entry → List ℕ → ℤ
total_at es [] = pos 0
total_at es (x ∷ xs) = number_at es x +ℤ total_at es xs

module _ (f : ℕ → ℤ) where
  above-others : (k : ℕ) (xs : List ℕ) (ws : List (ℕ × ℤ)) → AllAbove k xs → OfCells (nonzero_among f xs) ws → AreOthers k ws
  above-others k [] [] high of = tt
  above-others k [] (w ∷ ws) high of = absurd of
  above-others k (x ∷ xs) ws high of = by (is_nonzero (f x)) refl ws of (λ ws of. above-others k xs ws high.1 of)
    where
      by : (b : Bool) → is_nonzero (f x) ≡ b → (ws : List (ℕ × ℤ)) → OfCells (nonzero_among f (x ∷ xs)) ws
          → ((ws : List (ℕ × ℤ)) → OfCells (nonzero_among f xs) ws → AreOthers k ws) → AreOthers k ws
      by false off ws of later = later ws (rw off at of)
      by true on [] of later = let some : OfCells ((x, f x) ∷ nonzero_among f xs) [] = rw on at of in absurd some
      by true on (w ∷ ws) of later =
          let some : OfCells ((x, f x) ∷ nonzero_among f xs) (w ∷ ws) = rw on at of in
          let low : k < x = high.0 in
          let same : w.0 ≡ x = some.0 in
          (λ own. omega (arith, low, same, own), later ws some.1)

  -- a cell that isn't written has 0
  abbrev pub AreZeros : List Entry → List ℕ → Type 0
  AreZeros es [] = Unit {0}
  AreZeros es (x ∷ xs) = (is_nonzero (f x) ≡ false → number_at es x ≡ pos 0) × AreZeros es xs

  zeros-kept : (es : List Entry) (c : ℕ) (n : ℤ) (xs : List ℕ) → AllAbove c xs → AreZeros es xs → AreZeros (with_write es c n) xs
  zeros-kept es c n [] high zeros = tt
  zeros-kept es c n (x ∷ xs) high zeros =
      let low : c < x = high.0 in
      (λ off. number-unwritten es c n x (λ same. omega (arith, low, same)) ∙ zeros.0 off, zeros-kept es c n xs high.1 zeros.1)

  -- the written cells have the writes' numbers, and all others 0
  pub total-after : (xs : List ℕ) (es : List Entry) (ws : List (ℕ × ℤ)) → Rises xs → OfCells (nonzero_among f xs) ws → AreZeros es xs → total_at (after_writes es ws) xs ≡ sum_of ws
  total-after [] es [] rises of zeros = refl
  total-after [] es (w ∷ ws) rises of zeros = absurd of
  total-after (x ∷ xs) es ws rises of zeros =
      by (is_nonzero (f x)) refl ws of (λ es ws of zeros. total-after xs es ws rises.1 of zeros)
    where
      by : (b : Bool) → is_nonzero (f x) ≡ b → (ws : List (ℕ × ℤ)) → OfCells (nonzero_among f (x ∷ xs)) ws
          → ((es : List Entry) (ws : List (ℕ × ℤ)) → OfCells (nonzero_among f xs) ws → AreZeros es xs → total_at (after_writes es ws) xs ≡ sum_of ws)
          → total_at (after_writes es ws) (x ∷ xs) ≡ sum_of ws
      by false off ws of later =
          let mine : OfCells (nonzero_among f xs) ws = rw off at of in
          let rest = later es ws mine zeros.1 in
          let here = number-kept es ws x (above-others x xs ws rises.0 mine) ∙ zeros.0 off in
          omega (arith, ints, rest, here)
      by true on [] of later = let some : OfCells ((x, f x) ∷ nonzero_among f xs) [] = rw on at of in absurd some
      by true on (w ∷ ws) of later =
          let some : OfCells ((x, f x) ∷ nonzero_among f xs) (w ∷ ws) = rw on at of in
          let same : w.0 ≡ x = some.0 in
          let high : AllAbove w.0 xs = subst (λ k. AllAbove k xs) (sym same) rises.0 in
          let rest = later (with_write es w.0 w.1) ws some.1 (zeros-kept es w.0 w.1 xs high zeros.1) in
          let here : number_at (after_writes (with_write es w.0 w.1) ws) x ≡ w.1 =
          number-kept (with_write es w.0 w.1) ws x (above-others x xs ws rises.0 some.1) ∙ ap (number_at (with_write es w.0 w.1)) (sym same) ∙ number-written es w.0 w.1 in
          omega (arith, ints, rest, here)

-- ---- the leaf cells below rise

firsts-among : (f : ℕ → ℤ) (xs : List ℕ) → map (λ (pair : ℕ × ℤ). pair.0) (nonzero_among f xs) ≡ filter (λ x. is_nonzero (f x)) xs
firsts-among f [] = refl
firsts-among f (x ∷ xs) = by (is_nonzero (f x)) refl (firsts-among f xs)
  where
    by : (b : Bool) → is_nonzero (f x) ≡ b → map (λ (pair : ℕ × ℤ). pair.0) (nonzero_among f xs) ≡ filter (λ x. is_nonzero (f x)) xs
        → map (λ (pair : ℕ × ℤ). pair.0) (nonzero_among f (x ∷ xs)) ≡ filter (λ x. is_nonzero (f x)) (x ∷ xs)
    by true on rest = rw on (ap (λ ys. x ∷ ys) rest)
    by false off rest = rw off rest

pub below-rises : (space : Layout) (cell : ℕ) → Rises (cells_below space cell)
unfolding leaf_cells
below-rises space cell =
    let leaves = filter (is_leaf_cell space) (range_with_len 0 (size_of space)) in
    subst Rises (sym (firsts-among (weight space cell) leaves))
    (Rises-from_increasing (filter (λ x. is_nonzero (weight space cell x)) leaves)
    (IsStrictlyIncreasing-filter (λ x. is_nonzero (weight space cell x)) leaves
    (IsStrictlyIncreasing-filter (is_leaf_cell space) (range_with_len 0 (size_of space)) (range-rises (size_of space)))))
