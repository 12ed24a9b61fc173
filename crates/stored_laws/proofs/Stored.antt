-- Sums over the entries of a store, and over the leaf cells below.
use Rattle.std.proofs.Common.{◌≡◌, refl, ◌∙◌, ap, arith, ℕ, ◌<◌, ◌≤◌, Bool, true, false, ℤ, pos, ◌+ℤ◌, ◌*ℤ◌, List, [], ◌∷◌, get_or, None, eqb}
use Rattle.std.specs.List.{All, filter, range_with_len}
use Rattle.std.specs.Option.{option_map_or}
use Rattle.std.proofs.Math.IntN.{*ℤ-zero}
use Rattle.std.proofs.lemmas.Bool.{eqb-true}
use Rattle.std.proofs.lemmas.Int.{ints}
use Rattle.std.proofs.lemmas.List.Elements.{All-head, All-tail}
use Rattle.cube_fixed.specs.declared.value.Value.{Value}
use Rattle.cube_fixed.specs.declared.value.Value.TheVariants.{Num}
use Rattle.cube_fixed.specs.Arithmetic.{fit, zero_value}
use Rattle.cube_space.specs.Layout.{Layout}
use Rattle.cube_space.specs.Cells.{IsCell, size_of, is_leaf_cell}
use Rattle.cell_store.specs.declared.entry.Entry.{Entry}
use Rattle.cell_store.specs.Entries.{IsStore, cells_of, number_at}
use Rattle.cell_store.proofs.Rising.{AllAbove, Rises, Rises-from_increasing}
use Rattle.rule_laws.specs.RuleSystem as rules
use Rattle.rule_laws.specs.RuleSystem.{SolvesRules, base, governing, weighted_sum}
use Rattle.rule_laws.proofs.StatementFacts.{value_by-ungoverned}
use Rattle.rule_model.specs.BoundModel.{BoundModel}
use Rattle.rule_model.specs.Weights.{weight, leaf_cells, leaves_below}
use Rattle.rule_model.specs.System.{system_of}
use Rattle.model_laws.proofs.Below.{among, leaf_cells-are}
use Rattle.stored_laws.specs.Stored.{stored_in, AreLeafEntries, HaveStored, sum_of_entries}
use Rattle.stored_laws.proofs.Sums.{sum_of, fold-sum, sum-plus, sum-none, only_at, sum-only, sum-among, sum-numbers}
use Rattle.cell_store.proofs.Numbers.{number_at-above as number-above}

-- what is stored in a cell, as a value
pub stored-number : (entries : List Entry) (c : ℕ) → option_map_or Num (stored_in entries c) zero_value ≡ Num (number_at entries c)
unfolding stored_in
stored-number [] c = refl
stored-number (e ∷ entries) c = by (eqb e.cell c) refl (stored-number entries c)
  where
    by : (b : Bool) → eqb e.cell c ≡ b → option_map_or Num (stored_in entries c) zero_value ≡ Num (number_at entries c)
        → option_map_or Num (stored_in (e ∷ entries) c) zero_value ≡ Num (number_at (e ∷ entries) c)
    by true same later = rw same refl
    by false other later = rw other later

-- ---- the sum over the numbers that pass is the sum over the entries

module _ (w : ℕ → ℤ) (p : ℕ → Bool) (size : ℕ) where
  abbrev Passes : Entry → Type 0
  Passes e = (e.cell < size) × (p e.cell ≡ true)

  -- the first entry's term, and those of the others
  parted : (e : Entry) (entries : List Entry) → AllAbove e.cell (cells_of entries)
      → (x : ℕ) → w x *ℤ number_at (e ∷ entries) x ≡ only_at e.cell (w e.cell *ℤ e.number) x +ℤ (w x *ℤ number_at entries x)
  parted e entries above x = by (eqb e.cell x) refl
    where
      by : (b : Bool) → eqb e.cell x ≡ b → w x *ℤ number_at (e ∷ entries) x ≡ only_at e.cell (w e.cell *ℤ e.number) x +ℤ (w x *ℤ number_at entries x)
      by true same =
          let at : e.cell ≡ x = eqb-true e.cell x same in
          let none : number_at entries x ≡ pos 0 = number-above e.cell x entries (omega (arith, at)) above in
          let one : w e.cell ≡ w x = ap w at in
          rw (same, none) (first (w e.cell) (w x) e.number one)
        where
          first : (a b k : ℤ) → a ≡ b → b *ℤ k ≡ (a *ℤ k) +ℤ (b *ℤ pos 0)
          first a b k is = let e : a *ℤ k ≡ b *ℤ k = ap (λ (z : ℤ). z *ℤ k) is in omega (arith, ints, e)
      by false other = rw other (omega (arith, ints))

  sum-entries : (entries : List Entry) → Rises (cells_of entries) → All Passes entries
      → sum_of (λ x. w x *ℤ number_at entries x) (filter p (range_with_len 0 size)) ≡ sum_of (λ e. w e.cell *ℤ e.number) entries
  sum-entries [] rises passes = sum-none (λ x. w x *ℤ pos 0) (filter p (range_with_len 0 size)) (λ x. *ℤ-zero (w x))
  sum-entries (e ∷ entries) rises passes =
      let here : Passes e = All-head Passes e entries passes in
      let rest = sum-entries entries rises.1 (All-tail Passes e entries passes) in
      let split = sum-plus (λ x. w x *ℤ number_at (e ∷ entries) x) (only_at e.cell (w e.cell *ℤ e.number)) (λ x. w x *ℤ number_at entries x) (filter p (range_with_len 0 size)) (parted e entries rises.0) in
      let one = sum-only p (w e.cell *ℤ e.number) e.cell 0 size (omega arith) (omega (arith, here.0)) here.1 in
      omega (arith, ints, rest, split, one)

-- ---- bases

module _ (m : BoundModel) (entries : List Entry) (table : ℕ → Value) (c : ℕ) where
  pub base-leaf : is_leaf_cell m.space c ≡ true → base (system_of m) (stored_in entries) table c ≡ Num (number_at entries c)
  unfolding system_of
  base-leaf leaf = rw leaf (stored-number entries c)

  pub base-total : IsStore entries → AreLeafEntries m.space entries → HaveStored entries table (leaves_below m.space c) → is_leaf_cell m.space c ≡ false
      → base (system_of m) (stored_in entries) table c ≡ fit (sum_of_entries m.space c entries)
  unfolding system_of leaf_cells sum_of_entries
  base-total store leaves have total =
      let sum = sum-numbers table (number_at entries) (leaves_below m.space c) have in
      let cells = sum-among (weight m.space c) (number_at entries) (leaf_cells m.space) in
      let over = sum-entries (weight m.space c) (is_leaf_cell m.space) (size_of m.space) entries (Rises-from_increasing (cells_of entries) store.rising) leaves in
      let folded = fold-sum (λ e. weight m.space c e.cell *ℤ e.number) (pos 0) entries in
      let plain : sum_of (λ e. weight m.space c e.cell *ℤ e.number) entries ≡ sum_of_entries m.space c entries = omega (arith, ints, folded) in
      rw total (sum ∙ ap fit (cells ∙ over ∙ plain))

  module _ (solves : SolvesRules (system_of m) (stored_in entries) table) where
    has-base : (x : ℕ) → rules.IsCell (system_of m) x → governing (system_of m) x ≡ None → table x ≡ base (system_of m) (stored_in entries) table x
    has-base x cell none = solves x cell ∙ value_by-ungoverned (system_of m) (stored_in entries) table x none

-- what lies below are leaf cells
below-leaves : (space : Layout) (c : ℕ) → All (λ pair. IsCell space pair.0 × (is_leaf_cell space pair.0 ≡ true)) (leaves_below space c)
below-leaves space c =
    among (weight space c) (λ pair. IsCell space pair.0 × (is_leaf_cell space pair.0 ≡ true)) (leaf_cells space) (λ k d less on. leaf_cells-are space k d less)

module _ (m : BoundModel) (entries : List Entry) (table : ℕ → Value) (solves : SolvesRules (system_of m) (stored_in entries) table) where
  pub value-leaf : (c : ℕ) → IsCell m.space c → governing (system_of m) c ≡ None → is_leaf_cell m.space c ≡ true → table c ≡ Num (number_at entries c)
  unfolding system_of
  value-leaf c cell none leaf = has-base m entries table c solves c cell none ∙ base-leaf m entries table c leaf

  pub value-total : (c : ℕ) → IsStore entries → AreLeafEntries m.space entries → IsCell m.space c → governing (system_of m) c ≡ None
      → All (λ pair. governing (system_of m) pair.0 ≡ None) (leaves_below m.space c) → is_leaf_cell m.space c ≡ false → table c ≡ fit (sum_of_entries m.space c entries)
  unfolding system_of
  value-total c store leaves cell none below total =
      let have : HaveStored entries table (leaves_below m.space c) =
      λ k d less. (let leaf = below-leaves m.space c k d less in value-leaf (get_or (leaves_below m.space c) k d).0 leaf.0 (below k d less) leaf.1) in
      has-base m entries table c solves c cell none ∙ base-total m entries table c store leaves have total
