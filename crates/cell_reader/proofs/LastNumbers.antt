-- The number of a cell after writes: the last that they write into it, or else the one before them.
use Rattle.std.proofs.Common.{◌≡◌, ◌≢◌, ◌∙◌, refl, sym, ap, arith, ℕ, ◌<◌, ◌≤◌, ℤ, pos, Bool, true, false, cond, eqb, ltb, List, [], ◌∷◌, ◌++◌, drop, filter, length, Option, None, Some, inl, inr, append-nil, nat_cmp}
use Rattle.std.specs.BTreeMap.{BTreeMap, is_at}
use Rattle.std.specs.Map.{lookup}
use Rattle.std.specs.Option.{unwrap_or}
use Rattle.std.specs.Ordering.{int_eq}
use Rattle.std.proofs.lemmas.Bool.{cases_lt}
use Rattle.std.proofs.lemmas.Bool.Decides.{Decides-int_eq, eqb_tells, nat_tests}
use Rattle.std.proofs.lemmas.List.{drop-append-le}
use Rattle.cell_store.specs.declared.entry.Entry.{Entry}
use Rattle.cell_store.specs.Entries.{above, after_writes, kept_of, number_at, with_write}
use Rattle.cell_store.proofs.Numbers.{number_at-head, number_at-later}
use Rattle.cell_writes.specs.Writes.{last_writes}
use Rattle.cell_writes.proofs.Found.{found, found-put, latest}
use Rattle.cell_reader.specs.Inside.After.{AreLast}

-- ---- one write

module _ (p : ℕ → Bool) (k : ℕ) (more : List Entry) where
  abbrev passing : List Entry → List Entry
  passing es = filter (λ (e : Entry). p e.cell) es

  -- a filter that keeps the entries of the cell, before others that aren't of the cell
  passed : p k ≡ true → number_at more k ≡ pos 0 → (es : List Entry) → number_at (passing es ++ more) k ≡ number_at es k
  passed passes none [] = none
  passed passes none (e ∷ es) =
      elim (eqb_tells e.cell k) [
        | inl t ↦ (let own : p e.cell ≡ true = ap p t.1 ∙ passes in rw (own, t.0) refl)
        | inr t ↦ by (p e.cell) t.0 (passed passes none es)
      ]
    where
      by : (b : Bool) → eqb e.cell k ≡ false → number_at (passing es ++ more) k ≡ number_at es k → number_at (cond b (e ∷ passing es) (passing es) ++ more) k ≡ number_at (e ∷ es) k
      by true other later = rw other later
      by false other later = rw other later

  -- and one that drops them
  dropped : p k ≡ false → (es : List Entry) → number_at (passing es ++ more) k ≡ number_at more k
  dropped fails [] = refl
  dropped fails (e ∷ es) =
      elim (eqb_tells e.cell k) [
        | inl t ↦ (let own : p e.cell ≡ false = ap p t.1 ∙ fails in rw own (dropped fails es))
        | inr t ↦ by (p e.cell) t.0 (dropped fails es)
      ]
    where
      by : (b : Bool) → eqb e.cell k ≡ false → number_at (passing es ++ more) k ≡ number_at more k → number_at (cond b (e ∷ passing es) (passing es) ++ more) k ≡ number_at more k
      by true other later = rw other later
      by false other later = later

none_dropped : (p : ℕ → Bool) (k : ℕ) → p k ≡ false → (es : List Entry) → number_at (filter (λ (e : Entry). p e.cell) es) k ≡ pos 0
none_dropped p k fails es = ap (λ (left : List Entry). number_at left k) (sym (append-nil (filter (λ (e : Entry). p e.cell) es))) ∙ dropped p k [] fails es

all_passed : (p : ℕ → Bool) (k : ℕ) → p k ≡ true → (es : List Entry) → number_at (filter (λ (e : Entry). p e.cell) es) k ≡ number_at es k
all_passed p k passes es = ap (λ (left : List Entry). number_at left k) (sym (append-nil (filter (λ (e : Entry). p e.cell) es))) ∙ passed p k [] passes refl es

module _ (c : ℕ) (n : ℤ) (more : List Entry) where
  kept_own : number_at more c ≡ pos 0 → number_at (kept_of c n ++ more) c ≡ n
  kept_own none = by (int_eq n (pos 0)) refl
    where
      by : (b : Bool) → int_eq n (pos 0) ≡ b → number_at (cond b [] (record { cell = c; number = n } ∷ []) ++ more) c ≡ n
      by true zero = none ∙ sym ((Decides-int_eq n (pos 0)).0 zero)
      by false other = number_at-head (record { cell = c; number = n }) more

  kept_other : (k : ℕ) → c ≢ k → number_at (kept_of c n ++ more) k ≡ number_at more k
  kept_other k other = by (int_eq n (pos 0))
    where
      by : (b : Bool) → number_at (cond b [] (record { cell = c; number = n } ∷ []) ++ more) k ≡ number_at more k
      by true = refl
      by false = number_at-later (record { cell = c; number = n }) more k other

number-written : (es : List Entry) (c : ℕ) (n : ℤ) → number_at (with_write es c n) c ≡ n
number-written es c n =
    let low : ltb c c ≡ false = grind (arith, nat_tests) in
    dropped (λ cell. ltb cell c) c (kept_of c n ++ above es c) low es ∙ kept_own c n (above es c) (none_dropped (λ cell. ltb c cell) c low es)

number-unwritten : (es : List Entry) (c : ℕ) (n : ℤ) (k : ℕ) → c ≢ k → number_at (with_write es c n) k ≡ number_at es k
number-unwritten es c n k other =
    elim (cases_lt k c) [
      | inl less ↦ (
          let low : ltb k c ≡ true = grind (arith, nat_tests) in
          let high : ltb c k ≡ false = grind (arith, nat_tests) in
          passed (λ cell. ltb cell c) k (kept_of c n ++ above es c) low (kept_other c n (above es c) k other ∙ none_dropped (λ cell. ltb c cell) k high es) es)
      | inr le ↦ (
          let more : c < k = omega arith in
          let low : ltb k c ≡ false = grind (arith, nat_tests) in
          let high : ltb c k ≡ true = grind (arith, nat_tests) in
          dropped (λ cell. ltb cell c) k (kept_of c n ++ above es c) low es ∙ (kept_other c n (above es c) k other ∙ all_passed (λ cell. ltb c cell) k high es))
    ]

-- ---- all the writes

module _ (k : ℕ) (first : ℤ) where
  -- where the writes before these left the last number `before`
  number-latest : (es : List Entry) (ws : List (ℕ × ℤ)) (before : Option ℤ) → number_at es k ≡ unwrap_or before first
      → number_at (after_writes es ws) k ≡ unwrap_or (latest before ws k) first
  number-latest es [] before is = is
  number-latest es (w ∷ ws) before is =
      elim (eqb_tells w.0 k) [
        | inl t ↦ rw t.0 (number-latest (with_write es w.0 w.1) ws (Some w.1) (ap (number_at (with_write es w.0 w.1)) (sym t.1) ∙ number-written es w.0 w.1))
        | inr t ↦ rw t.0 (number-latest (with_write es w.0 w.1) ws before (number-unwritten es w.0 w.1 k t.1 ∙ is))
      ]

looked_up : (k : ℕ) (ws : List (ℕ × ℤ)) → lookup (is_at (nat_cmp k)) ws ≡ found ws k
looked_up k [] = refl
looked_up k (w ∷ ws) =
    let same : is_at (nat_cmp k) w.0 ≡ eqb w.0 k = grind (arith, nat_tests) in
    rw same (ap (λ (later : Option ℤ). cond (eqb w.0 k) (Some w.1) later) (looked_up k ws))

number-after : (es : List Entry) (ws : List (ℕ × ℤ)) (k : ℕ) → number_at (after_writes es ws) k ≡ unwrap_or (lookup (is_at (nat_cmp k)) (last_writes ws)) (number_at es k)
number-after es ws k =
    number-latest k (number_at es k) es ws None refl
    ∙ ap (λ (last : Option ℤ). unwrap_or last (number_at es k)) (sym (looked_up k (last_writes ws) ∙ found-put [] ws k))

-- what is found at a cell among the last writes, or else what was stored there before them
pub number-told : (es : List Entry) (ws entries : List (ℕ × ℤ)) (k : ℕ) (last : Option ℤ) → entries ≡ last_writes ws → last ≡ lookup (is_at (nat_cmp k)) entries
    → unwrap_or last (number_at es k) ≡ number_at (after_writes es ws) k
number-told es ws entries k last are is =
    ap (λ (found : Option ℤ). unwrap_or found (number_at es k)) (is ∙ ap (lookup (is_at (nat_cmp k))) are) ∙ sym (number-after es ws k)

-- ---- the last numbers that are kept

-- those of the writes from a place on, with one write more
pub last-more : (ws more : List (ℕ × ℤ)) (made cell : ℕ) (number : ℤ) (kept taken after : Option (BTreeMap ℕ ℤ)) → made ≤ length ws → more ≡ ws ++ (cell, number) ∷ [] → taken ≡ kept
    → ((writes : List (ℕ × ℤ)) → AreLast writes taken → AreLast (writes ++ (cell, number) ∷ []) after)
    → AreLast (drop made ws) kept → AreLast (drop made more) after
last-more ws more made cell number kept taken after first are same then last =
    rw (are, drop-append-le made ws ((cell, number) ∷ []) first) (then (drop made ws) (rw same last))
