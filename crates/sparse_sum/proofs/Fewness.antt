-- How many live cells there can be.
use Rattle.std.proofs.Common.{◌≡◌, refl, arith, ℕ, ◌+◌, ◌<◌, ◌≤◌, zero, suc, eqb, Bool, true, false, ◌||◌, ℤ, List, [], ◌∷◌, length, filter}
use Rattle.std.specs.List.{range_with_len}
use Rattle.std.proofs.lemmas.Bool.{eqb-true, ne_eqb}
use Rattle.dim_weights.specs.Table.{is_nonzero, nonzero_among}
use Rattle.cube_space.specs.Layout.{Layout}
use Rattle.cube_space.specs.Cells.{size_of, is_leaf_cell}
use Rattle.rule_model.specs.Weights.{weight, leaf_cells}
use Rattle.dim_order.specs.Members.{is_among}
use Rattle.sparse_sum.specs.Live.{is_live, live_below}

either-few : (a b : ℕ → Bool) (xs : List ℕ) → length (filter (λ n. a n || b n) xs) ≤ length (filter a xs) + length (filter b xs)
either-few a b [] = omega arith
either-few a b (x ∷ xs) = by (a x) refl (b x) refl (either-few a b xs)
  where
    by : (p : Bool) → a x ≡ p → (q : Bool) → b x ≡ q → length (filter (λ n. a n || b n) xs) ≤ length (filter a xs) + length (filter b xs)
        → length (filter (λ n. a n || b n) (x ∷ xs)) ≤ length (filter a (x ∷ xs)) + length (filter b (x ∷ xs))
    by true is true also rest = rw (is, also) (omega (arith, rest))
    by true is false also rest = rw (is, also) (omega (arith, rest))
    by false is true also rest = rw (is, also) (omega (arith, rest))
    by false is false also rest = rw (is, also) rest

none-equal : (c s m : ℕ) → c < s → length (filter (λ n. eqb n c) (range_with_len s m)) ≡ 0
none-equal c s zero less = refl
none-equal c s (suc m) less =
    let other : eqb s c ≡ false = ne_eqb s c (λ same. omega (arith, less, same)) in
    rw other (none-equal c (s + 1) m (omega (arith, less)))

one-equal : (c s m : ℕ) → length (filter (λ n. eqb n c) (range_with_len s m)) ≤ 1
one-equal c s zero = omega arith
one-equal c s (suc m) = by (eqb s c) refl (one-equal c (s + 1) m)
  where
    by : (b : Bool) → eqb s c ≡ b → length (filter (λ n. eqb n c) (range_with_len (s + 1) m)) ≤ 1 → length (filter (λ n. eqb n c) (range_with_len s (suc m))) ≤ 1
    by true same rest =
        let none = none-equal c (s + 1) m (omega (arith, eqb-true s c same)) in
        rw same (omega (arith, none))
    by false other rest = rw other rest

none-false : (xs : List ℕ) → length (filter (λ n. false) xs) ≡ 0
none-false [] = refl
none-false (x ∷ xs) = none-false xs

among-few : (cells : List ℕ) (s m : ℕ) → length (filter (is_among cells) (range_with_len s m)) ≤ length cells
among-few [] s m = omega (arith, none-false (range_with_len s m))
among-few (c ∷ cells) s m =
    omega (arith, either-few (λ n. eqb n c) (is_among cells) (range_with_len s m), one-equal c s m, among-few cells s m)

-- no more pairs than numbers that are live
pairs-few : (w : ℕ → ℤ) (leaf live : ℕ → Bool) (xs : List ℕ) → length (filter (λ pair. live pair.0) (nonzero_among w (filter leaf xs))) ≤ length (filter live xs)
pairs-few w leaf live [] = omega arith
pairs-few w leaf live (x ∷ xs) = by (leaf x) refl (is_nonzero (w x)) refl (live x) refl (pairs-few w leaf live xs)
  where
    by : (l : Bool) → leaf x ≡ l → (b : Bool) → is_nonzero (w x) ≡ b → (a : Bool) → live x ≡ a → length (filter (λ pair. live pair.0) (nonzero_among w (filter leaf xs))) ≤ length (filter live xs)
        → length (filter (λ pair. live pair.0) (nonzero_among w (filter leaf (x ∷ xs)))) ≤ length (filter live (x ∷ xs))
    by false l b c true a rest = rw (l, a) (omega (arith, rest))
    by false l b c false a rest = rw (l, a) rest
    by true l false c true a rest = rw (l, c, a) (omega (arith, rest))
    by true l false c false a rest = rw (l, c, a) rest
    by true l true c true a rest = rw (l, c, a) (omega (arith, rest))
    by true l true c false a rest = rw (l, c, a) rest

pub live-few : (space : Layout) (stored fed : List ℕ) (cell : ℕ) → length (live_below space stored fed cell) ≤ length stored + length fed
unfolding leaf_cells
live-few space stored fed cell =
    let all = range_with_len 0 (size_of space) in
    omega (arith, pairs-few (weight space cell) (is_leaf_cell space) (is_live stored fed) all, either-few (is_among stored) (is_among fed) all, among-few stored 0 (size_of space), among-few fed 0 (size_of space))
