-- Exact sums over lists.
use Rattle.std.proofs.Common.{◌≡◌, refl, sym, ◌∙◌, ap, arith, subst, ℕ, zero, suc, ◌+◌, ◌<◌, ◌≤◌, Bool, true, false, ◌||◌, ℤ, pos, ◌+ℤ◌, ◌*ℤ◌, List, [], ◌∷◌, eqb, if◌then◌else◌}
use Rattle.std.specs.Prelude.{fold}
use Rattle.std.specs.List.{All, filter, range_with_len}
use Rattle.std.proofs.Math.IntN.{zero-*ℤ}
use Rattle.std.proofs.lemmas.Bool.{eqb-true, eq-eqb, ne_eqb}
use Rattle.std.proofs.lemmas.Int.{ints}
use Rattle.std.proofs.lemmas.List.Elements.{All-head, All-tail}
use Rattle.dim_weights.specs.Table.{is_nonzero, nonzero_among}
use Rattle.cube_fixed.specs.declared.value.Value.{Value}
use Rattle.cube_fixed.specs.declared.value.Value.TheVariants.{Num}
use Rattle.cube_fixed.specs.Arithmetic.{fit}
use Rattle.cube_fixed.specs.Total.{Total, no_terms, with_term, term_of, over_enters}
use Rattle.rule_laws.specs.RuleSystem.{weighted_sum}
use Rattle.dim_weights.proofs.Nonzero.{zero-is}

abbrev pub sum_of : {X : Type 0} → (X → ℤ) → List X → ℤ
sum_of f [] = pos 0
sum_of f (x ∷ xs) = f x +ℤ sum_of f xs

pub fold-sum : {X : Type 0} (f : X → ℤ) (before : ℤ) (xs : List X) → fold (λ sum x. sum +ℤ f x) before xs ≡ before +ℤ sum_of f xs
fold-sum f before [] = omega (arith, ints)
fold-sum f before (x ∷ xs) = let rest = fold-sum f (before +ℤ f x) xs in omega (arith, ints, rest)

pub sum-plus : {X : Type 0} (h f g : X → ℤ) (xs : List X) → ((x : X) → h x ≡ f x +ℤ g x) → sum_of h xs ≡ sum_of f xs +ℤ sum_of g xs
sum-plus h f g [] is = omega (arith, ints)
sum-plus h f g (x ∷ xs) is = let rest = sum-plus h f g xs is in omega (arith, ints, rest, is x)

pub sum-none : {X : Type 0} (f : X → ℤ) (xs : List X) → ((x : X) → f x ≡ pos 0) → sum_of f xs ≡ pos 0
sum-none f [] none = refl
sum-none f (x ∷ xs) none = let rest = sum-none f xs none in omega (arith, ints, rest, none x)

-- ---- the term of one number

-- this value at one number, and 0 elsewhere
abbrev pub only_at : ℕ → ℤ → ℕ → ℤ
only_at a v x = if eqb a x then v else pos 0

absent : (p : ℕ → Bool) (v : ℤ) (a start n : ℕ) → a < start → sum_of (only_at a v) (filter p (range_with_len start n)) ≡ pos 0
absent p v a start zero less = refl
absent p v a start (suc n) less = by (p start) refl (absent p v a (start + 1) n (omega (arith, less)))
  where
    by : (b : Bool) → p start ≡ b → sum_of (only_at a v) (filter p (range_with_len (start + 1) n)) ≡ pos 0 → sum_of (only_at a v) (filter p (range_with_len start (suc n))) ≡ pos 0
    by true is rest =
        let other : eqb a start ≡ false = ne_eqb a start (λ same. omega (arith, less, same)) in
        rw (is, other) (omega (arith, ints, rest))
    by false is rest = rw is rest

-- among the numbers that pass, one that does stands just once
pub sum-only : (p : ℕ → Bool) (v : ℤ) (a start n : ℕ) → start ≤ a → a < start + n → p a ≡ true → sum_of (only_at a v) (filter p (range_with_len start n)) ≡ v
sum-only p v a start zero low high passes = absurd (omega (arith, low, high))
sum-only p v a start (suc n) low high passes = by (eqb a start) refl (λ above. sum-only p v a (start + 1) n above (omega (arith, high)) passes)
  where
    other : (b : Bool) → p start ≡ b → eqb a start ≡ false → sum_of (only_at a v) (filter p (range_with_len (start + 1) n)) ≡ v → sum_of (only_at a v) (filter p (range_with_len start (suc n))) ≡ v
    other true is differs rest = rw (is, differs) (omega (arith, ints, rest))
    other false is differs rest = rw is rest

    by : (b : Bool) → eqb a start ≡ b → (start + 1 ≤ a → sum_of (only_at a v) (filter p (range_with_len (start + 1) n)) ≡ v) → sum_of (only_at a v) (filter p (range_with_len start (suc n))) ≡ v
    by true same later =
        let e : a ≡ start = eqb-true a start same in
        let here : p start ≡ true = subst (λ x. p x ≡ true) e passes in
        let rest = absent p v a (start + 1) n (omega (arith, e)) in
        rw (here, same) (omega (arith, ints, rest))
    by false differs later =
        let apart : a ≡ start → ⊥ = λ e. (let t = eq-eqb a start e in let clash : true ≡ false = sym t ∙ differs in cc) in
        other (p start) refl differs (later (omega (arith, low, apart)))

-- ---- weights

-- those of weight 0 add nothing
pub sum-among : (value n : ℕ → ℤ) (leaves : List ℕ) → sum_of (λ pair. pair.1 *ℤ n pair.0) (nonzero_among value leaves) ≡ sum_of (λ x. value x *ℤ n x) leaves
sum-among value n [] = refl
sum-among value n (leaf ∷ leaves) = by (is_nonzero (value leaf)) refl (sum-among value n leaves)
  where
    by : (b : Bool) → is_nonzero (value leaf) ≡ b → sum_of (λ pair. pair.1 *ℤ n pair.0) (nonzero_among value leaves) ≡ sum_of (λ x. value x *ℤ n x) leaves
        → sum_of (λ pair. pair.1 *ℤ n pair.0) (nonzero_among value (leaf ∷ leaves)) ≡ sum_of (λ x. value x *ℤ n x) (leaf ∷ leaves)
    by true on rest = rw on (ap (λ (z : ℤ). (value leaf *ℤ n leaf) +ℤ z) rest)
    by false off rest =
        let none : value leaf *ℤ n leaf ≡ pos 0 = ap (λ (z : ℤ). z *ℤ n leaf) (zero-is (value leaf) off) ∙ zero-*ℤ (n leaf) in
        rw off (omega (arith, ints, rest, none))

-- ---- a weighted sum of numbers

module _ (table : ℕ → Value) (n : ℕ → ℤ) where
  abbrev IsNumber : ℕ × ℤ → Type 0
  IsNumber pair = table pair.0 ≡ Num (n pair.0)

  abbrev add : Total → ℕ × ℤ → Total
  add total pair = with_term total pair.1 (table pair.0)

  added-over : (total : Total) (pair : ℕ × ℤ) → IsNumber pair → total.over ≡ false → (add total pair).over ≡ false
  added-over total pair is none = ap (λ (v : Value). total.over || over_enters pair.1 v) is ∙ rw none refl

  added-exact : (total : Total) (pair : ℕ × ℤ) → IsNumber pair → (add total pair).exact ≡ total.exact +ℤ (pair.1 *ℤ n pair.0)
  added-exact total pair is = ap (λ (v : Value). total.exact +ℤ term_of pair.1 v) is

  folded : (pairs : List (ℕ × ℤ)) (total : Total) → All IsNumber pairs → total.over ≡ false
      → ((fold add total pairs).over ≡ false) × ((fold add total pairs).exact ≡ total.exact +ℤ sum_of (λ pair. pair.1 *ℤ n pair.0) pairs)
  folded [] total all none = (none, omega (arith, ints))
  folded (pair ∷ pairs) total all none =
      let here : IsNumber pair = All-head IsNumber pair pairs all in
      let rest = folded pairs (add total pair) (All-tail IsNumber pair pairs all) (added-over total pair here none) in
      (rest.0, omega (arith, ints, rest.1, added-exact total pair here))

  pub sum-numbers : (pairs : List (ℕ × ℤ)) → All IsNumber pairs → weighted_sum table pairs ≡ fit (sum_of (λ pair. pair.1 *ℤ n pair.0) pairs)
  sum-numbers pairs all =
      let whole = folded pairs no_terms all refl in
      let exact : (fold add no_terms pairs).exact ≡ sum_of (λ pair. pair.1 *ℤ n pair.0) pairs = whole.1 ∙ omega (arith, ints) in
      rw whole.0 (ap fit exact)
