-- A walk over stored cells and all others passes every leaf cell below a cell.
use Rattle.std.proofs.Common.{◌≡◌, refl, sym, ap, ◌∙◌, subst, arith, ℕ, zero, suc, ◌+◌, ◌<◌, ◌≤◌, inl, inr, Bool, true, false, not, ◌||◌, leb, eqb, ℤ, pos, List, [], ◌∷◌, ◌++◌, length, filter, get_or, find, Some, None, All}
use Rattle.std.specs.List.{range_with_len}
use Rattle.std.specs.List.Sorted.{IsStrictlyIncreasing}
use Rattle.std.specs.Option.{option_map_or}
use Rattle.std.specs.Ordering.{int_eq}
use Rattle.std.proofs.lemmas.Bool.{cases_eq}
use Rattle.std.proofs.lemmas.Bool.Decides.{nat_tests, Decides-int_eq}
use Rattle.std.proofs.lemmas.List.Elements.{All-head, All-tail}
use Rattle.std.proofs.lemmas.List.FromFn.{length-range_with_len, get_or-range_with_len}
use Rattle.cube_space.specs.Layout.{Layout}
use Rattle.cube_space.specs.Cells.{size_of}
use Rattle.cell_store.specs.declared.entry.Entry.{Entry}
use Rattle.cell_store.specs.Entries.{number_at}
use Rattle.dim_order.specs.Members.{is_among}
use Rattle.dim_order.proofs.Depths.{among-at}
use Rattle.dim_weights.specs.Table.{is_nonzero, nonzero_among}
use Rattle.rule_model.specs.Weights.{weight, leaf_cells, leaves_below}
use Rattle.model_laws.proofs.Below.{among, leaf_cells-are}
use Rattle.stored_laws.specs.Stored.{stored_in}
use Rattle.sparse_sum.specs.Live.{is_live, live_below}
use Rattle.sparse_sum.specs.Walking.{left, begun}
use Rattle.sparse_sum.proofs.Totals.{all-left}

-- ---- all numbers below a size

pub range-next : (a n c : ℕ) → a ≤ c → c < a + n → find (λ other. leb c other) (range_with_len a n) ≡ Some c
range-next a zero c low less = absurd (omega (arith, low, less))
range-next a (suc n) c low less = elim (cases_eq c a) [
  | inl same ↦ (let on : leb c a ≡ true = grind (arith, nat_tests, same) in rw on (ap Some (sym same)))
  | inr apart ↦ (let below : a < c = omega (arith, low, apart) in
      let off : leb c a ≡ false = grind (arith, nat_tests, below) in
      rw off (range-next (a + 1) n c (omega (arith, below)) (omega (arith, less))))
]

pub range-past : (a n c : ℕ) → a + n ≤ c → find (λ other. leb c other) (range_with_len a n) ≡ None
range-past a zero c past = refl
range-past a (suc n) c past =
    let below : a < c = omega (arith, past) in
    let off : leb c a ≡ false = grind (arith, nat_tests, below) in
    rw off (range-past (a + 1) n c (omega (arith, past)))

pub range-rises : (n : ℕ) → IsStrictlyIncreasing (range_with_len 0 n)
range-rises n k less =
    let long = length-range_with_len 0 n in
    let one = get_or-range_with_len 0 n k 0 (omega (arith, less, long)) in
    let two = get_or-range_with_len 0 n (k + 1) 0 (omega (arith, less, long)) in
    omega (arith, one, two)

among-range : (n x : ℕ) → x < n → is_among (range_with_len 0 n) x ≡ true
among-range n x less =
    let long = length-range_with_len 0 n in
    let at : get_or (range_with_len 0 n) x 0 ≡ x = get_or-range_with_len 0 n x 0 less ∙ (let e : 0 + x ≡ x = omega arith in e) in
    subst (λ k. is_among (range_with_len 0 n) k ≡ true) at (among-at (range_with_len 0 n) x (omega (arith, less, long)))

-- ---- what is below is all passed

filter-all : {X : Type 0} (p : X → Bool) (xs : List X) → All (λ x. p x ≡ true) xs → filter p xs ≡ xs
filter-all p [] all = refl
filter-all p (x ∷ xs) all = let on = All-head (λ x. p x ≡ true) x xs all in rw on (ap (λ ys. x ∷ ys) (filter-all p xs (All-tail (λ x. p x ≡ true) x xs all)))

or-true : (a b : Bool) → b ≡ true → (a || b) ≡ true
or-true true b on = refl
or-true false b on = on

module _ (space : Layout) (stored : List ℕ) (cell size : ℕ) (whole : size ≡ size_of space) where
  abbrev pub rest : List ℕ
  rest = range_with_len 0 size

  all-live : live_below space stored rest cell ≡ leaves_below space cell
  all-live =
      filter-all (λ (pair : ℕ × ℤ). is_live stored rest pair.0) (leaves_below space cell)
      (among (weight space cell) (λ (pair : ℕ × ℤ). is_live stored rest pair.0 ≡ true) (leaf_cells space)
      (λ k d less on. (let leaf = leaf_cells-are space k d less in
      or-true (is_among stored (get_or (leaf_cells space) k d)) (is_among rest (get_or (leaf_cells space) k d)) (among-range size (get_or (leaf_cells space) k d) (omega (arith, leaf.0, whole))))))

  pub all-begun : left space stored rest (begun cell) ≡ leaves_below space cell
  all-begun = all-left space stored rest cell ∙ all-live

-- ---- parts

-- the first of some cells, and the others
pub among-cons : (f : ℕ → ℤ) (x : ℕ) (xs : List ℕ) → nonzero_among f (x ∷ xs) ≡ nonzero_among f (x ∷ []) ++ nonzero_among f xs
among-cons f x xs = by (is_nonzero (f x)) refl
  where
    by : (b : Bool) → is_nonzero (f x) ≡ b → nonzero_among f (x ∷ xs) ≡ nonzero_among f (x ∷ []) ++ nonzero_among f xs
    by true on = rw on refl
    by false off = rw off refl

pub nothing-more : {X : Type 0} (xs : List X) → xs ++ [] ≡ xs
nothing-more [] = refl
nothing-more (x ∷ xs) = ap (λ ys. x ∷ ys) (nothing-more xs)

pub among-few : (f : ℕ → ℤ) (xs : List ℕ) → length (nonzero_among f xs) ≤ length xs
among-few f [] = omega arith
among-few f (x ∷ xs) = by (is_nonzero (f x)) refl (among-few f xs)
  where
    by : (b : Bool) → is_nonzero (f x) ≡ b → length (nonzero_among f xs) ≤ length xs → length (nonzero_among f (x ∷ xs)) ≤ suc (length xs)
    by true on rest = rw on (omega (arith, rest))
    by false off rest = rw off (omega (arith, rest))

-- what is stored, as a number
pub stored-number : (entries : List Entry) (x : ℕ) → option_map_or (λ n. n) (stored_in entries x) (pos 0) ≡ number_at entries x
unfolding stored_in
stored-number [] x = refl
stored-number (e ∷ entries) x = by (eqb e.cell x) refl (stored-number entries x)
  where
    by : (b : Bool) → eqb e.cell x ≡ b → option_map_or (λ n. n) (stored_in entries x) (pos 0) ≡ number_at entries x → option_map_or (λ n. n) (stored_in (e ∷ entries) x) (pos 0) ≡ number_at (e ∷ entries) x
    by true same later = rw same refl
    by false other later = rw other later

-- whether a weight is other than 1
pub other-weight : (w : ℤ) → (w ≡ pos 1 → ⊥) → not (int_eq w (pos 1)) ≡ true
other-weight w apart = by (int_eq w (pos 1)) refl
  where
    by : (b : Bool) → int_eq w (pos 1) ≡ b → not b ≡ true
    by true same = absurd (apart ((Decides-int_eq w (pos 1)).0 same))
    by false other = refl

pub own-weight : (w : ℤ) → w ≡ pos 1 → not (int_eq w (pos 1)) ≡ false
own-weight w same = let on : int_eq w (pos 1) ≡ true = (Decides-int_eq w (pos 1)).1 same in rw on refl
