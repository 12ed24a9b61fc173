-- How much one write more can pass a limit by.
use Rattle.std.proofs.Common.{◌≡◌, ◌≢◌, refl, sym, ◌∙◌, ap, subst, arith, ℕ, suc, ℤ, pos, Bool, true, false, cond, ◌||◌, eqb, ltb, ltb-true, ne_eqb, ◌≤◌, ◌+◌, List, [], ◌∷◌, ◌++◌, length, filter, ◌⊎◌, inl, inr, ⊎_elim}
use Rattle.std.specs.Prelude.{Contains, IsSome, is_some, nat_lt}
use Rattle.std.specs.Ordering.{int_eq}
use Rattle.std.proofs.lemmas.Bool.{and_parts, cases_eq, or_cases}
use Rattle.std.proofs.lemmas.List.{length-append, map-append}
use Rattle.std.proofs.lemmas.List.Elements.{Contains-append_left, Contains-append_right}
use Rattle.std.proofs.lemmas.List.Folds.{list_any-append}
use Rattle.std.proofs.lemmas.List.FromFn.{length-range_with_len}
use Rattle.cell_store.specs.declared.entry.Entry.{Entry}
use Rattle.cell_store.specs.Entries.{above, below, cells_of, kept_of, with_write}
use Rattle.cell_versions.proofs.Cells.{filtered, has, stored_is, untouched}
use Rattle.cube_space.specs.Cells.{IsSpace, size_of}
use Rattle.fed_laws.proofs.Reached.{fed_list, list_fed, list_rises}
use Rattle.fed_laws.specs.FedCells.{cells, fed_cells, is_reached}
use Rattle.feed_map.proofs.Counts.{within-counts}
use Rattle.feed_chains.specs.Led.{LeadsToAtMost}
use Rattle.model_laws.proofs.Formed.{well_formed}
use Rattle.lists.proofs.Rising.{among}
use Rattle.rule_laws.specs.Feeding.{IsFed, Leads}
use Rattle.rule_laws.specs.RuleSystem.{RuleSystem, Stored}
use Rattle.rule_model.specs.BoundModel.{BoundModel}
use Rattle.rule_model.specs.Conditions.{AreRules}
use Rattle.rule_model.specs.System.{system_of}
use Rattle.stored_laws.specs.Stored.{stored_in}
use Rattle.cell_reader.specs.FedCount.{fed_count}
use Rattle.cell_reader.proofs.Counted.{few-in_both}

-- ---- the stored cells

-- a cell that is written is neither below nor above itself
apart : (es : List Entry) (cell : ℕ) → length (below es cell) + length (above es cell) ≤ length es
apart [] cell = omega arith
apart (e ∷ es) cell = by (ltb e.cell cell) refl (ltb cell e.cell) refl (apart es cell)
  where
    by : (low : Bool) → ltb e.cell cell ≡ low → (high : Bool) → ltb cell e.cell ≡ high → length (below es cell) + length (above es cell) ≤ length es
        → length (cond low (e ∷ below es cell) (below es cell)) + length (cond high (e ∷ above es cell) (above es cell)) ≤ suc (length es)
    by true low true high later = absurd (omega (arith, ltb-true e.cell cell low, ltb-true cell e.cell high))
    by true low false high later = omega (arith, later)
    by false low true high later = omega (arith, later)
    by false low false high later = omega (arith, later)

kept_one : (cell : ℕ) (number : ℤ) → length (kept_of cell number) ≤ 1
kept_one cell number = by (int_eq number (pos 0))
  where
    by : (b : Bool) → length {A = Entry} (cond b [] (record { cell = cell; number = number } ∷ [])) ≤ 1
    by true = omega arith
    by false = omega arith

pub one_more : (es : List Entry) (cell : ℕ) (number : ℤ) → length (with_write es cell number) ≤ length es + 1
one_more es cell number =
    omega (arith, apart es cell, kept_one cell number, length-append (below es cell) (kept_of cell number ++ above es cell), length-append (kept_of cell number) (above es cell))

-- a written 0 stores no cell more
pub none_more : (es : List Entry) (cell : ℕ) (number : ℤ) → number ≡ pos 0 → length (with_write es cell number) ≤ length es
none_more es cell number none = rw none (omega (arith, apart es cell, length-append (below es cell) (above es cell)))

-- ---- the fed cells

filter_few : (p : ℕ → Bool) (xs : List ℕ) → length (filter p xs) ≤ length xs
filter_few p [] = omega arith
filter_few p (x ∷ xs) = by (p x) (filter_few p xs)
  where
    by : (b : Bool) → length (filter p xs) ≤ length xs → length (cond b (x ∷ filter p xs) (filter p xs)) ≤ suc (length xs)
    by true later = omega (arith, later)
    by false later = omega (arith, later)

-- no more cells are fed than there are
pub fed_of_all : (m : BoundModel) (es : List Entry) → fed_count m es ≤ size_of m.space
unfolding fed_count fed_cells system_of
fed_of_all m es =
    let w = system_of m in
    omega (arith, filter_few (is_reached w (stored_in es) w.size) (cells w), length-range_with_len 0 w.size)

-- a write changes only whether its own cell is stored
still_stored : (es : List Entry) (cell : ℕ) (number : ℤ) (x : ℕ) → cell ≢ x → is_some (stored_in (with_write es cell number) x) ≡ is_some (stored_in es x)
still_stored es cell number x other =
    let outside : among x (cell ∷ []) ≡ false = rw (ne_eqb cell x other) refl in
    stored_is x (with_write es cell number) ∙ (untouched x ((cell, number) ∷ []) es outside ∙ sym (stored_is x es))

has-both : (c : ℕ) (es fs : List Entry) → has c (es ++ fs) ≡ (has c es || has c fs)
has-both c es fs = ap (among c) (map-append (λ entry. entry.cell) es fs) ∙ list_any-append (λ x. eqb x c) (cells_of es) (cells_of fs)

-- after a written 0 no cell is stored that wasn't
zero_kept : (c cell : ℕ) (es : List Entry) → has c (with_write es cell (pos 0)) ≡ true → has c es ≡ true
zero_kept c cell es is =
    ⊎_elim (λ low. (and_parts (nat_lt c cell) (has c es) (sym (filtered (λ x. nat_lt x cell) c es) ∙ low)).1)
    (λ high. (and_parts (nat_lt cell c) (has c es) (sym (filtered (λ x. nat_lt cell x) c es) ∙ high)).1)
    (or_cases (has c (below es cell)) (has c (above es cell)) (sym (has-both c (below es cell) (above es cell)) ∙ is))

was_stored : (es : List Entry) (cell : ℕ) (number : ℤ) (x : ℕ) → number ≡ pos 0 → IsSome (stored_in (with_write es cell number) x) → IsSome (stored_in es x)
was_stored es cell number x none some =
    stored_is x es ∙ zero_kept x cell es (subst (λ (n : ℤ). has x (with_write es cell n) ≡ true) none (sym (stored_is x (with_write es cell number)) ∙ some))

more_stored : (w : RuleSystem) (s t : Stored) → ((x : ℕ) → IsSome (s x) → IsSome (t x)) → (c : ℕ) → IsFed w s c → IsFed w t c
more_stored w s t more c (inl dense) = inl dense
more_stored w s t more c (inr (n, a, inr dense, led)) = inr (n, a, inr dense, led)
more_stored w s t more c (inr (n, a, inl own, led)) = inr (n, a, inl (own.0, more a own.1), led)

-- a written 0 feeds no more cells
pub no_more_fed : (m : BoundModel) (es : List Entry) (cell : ℕ) (number : ℤ) → IsSpace m.space → AreRules m.space m.rules → number ≡ pos 0
    → fed_count m (with_write es cell number) ≤ fed_count m es
unfolding fed_count
no_more_fed m es cell number valid rules none =
    let w = system_of m in
    let before = stored_in es in
    let now = stored_in (with_write es cell number) in
    within-counts (fed_cells w before) (fed_cells w now) (list_rises w before) (list_rises w now)
    (λ c has. fed_list w before (well_formed m valid rules) c (more_stored w now before (λ x some. was_stored es cell number x none some) c (list_fed w now c has)))

-- a write feeds at most so many cells more as chains of feeds lead to from its cell
pub few_more_fed : (m : BoundModel) (es : List Entry) (cell : ℕ) (number : ℤ) (count : ℕ) → IsSpace m.space → AreRules m.space m.rules → LeadsToAtMost (system_of m) cell count
    → fed_count m (with_write es cell number) ≤ fed_count m es + count
unfolding fed_count
few_more_fed m es cell number count valid rules led =
    let few = led.1 in
    let all = few-in_both (fed_cells w now) (fed_cells w before) led.0 (list_rises w now)
    (λ c has. elim (parts c (list_fed w now c has)) [
      | inl old ↦ Contains-append_left (fed_cells w before) led.0 c (fed_list w before (well_formed m valid rules) c old)
      | inr new ↦ Contains-append_right (fed_cells w before) led.0 c new
    ]) in
    omega (arith, few, all)
  where
    w : RuleSystem
    w = system_of m

    before : Stored
    before = stored_in es

    now : Stored
    now = stored_in (with_write es cell number)

    -- it was fed before, or a chain leads to it from the cell
    parts : (c : ℕ) → IsFed w now c → IsFed w before c ⊎ Contains led.0 c
    parts c (inl dense) = inl (inl dense)
    parts c (inr (n, a, inr dense, chain)) = inl (inr (n, a, inr dense, chain))
    parts c (inr (n, a, inl own, chain)) =
        elim (cases_eq cell a) [
          | inl same ↦ inr (led.2 n c (subst (λ (x : ℕ). Leads w (suc n) x c) (sym same) chain))
          | inr other ↦ inl (inr (n, a, inl (own.0, sym (still_stored es cell number a other) ∙ own.1), chain))
        ]
