-- Components that are named once, with their weights together.
use Rattle.std.proofs.Common.{◌≡◌, ℕ, zero, suc, ◌+◌, ◌*◌, ◌<◌, ◌≤◌, ℤ, ◌+ℤ◌, ◌*ℤ◌, unsigned_abs, List, [], ◌∷◌, ◌++◌, length, get_or, set, sum_by, ap, arith, All}
use Rattle.std.specs.List.Sorted.{IsPermutation}
use Rattle.std.proofs.lemmas.Int.{ints}
use Rattle.std.proofs.lemmas.List.Elements.{All-set, All-push}
use Rattle.std.proofs.lemmas.List.Sorted.{sum_by-IsPermutation}
use Rattle.std.proofs.lemmas.List.Sums.{sum_by-cons}
use borrow.Author.Differences.{up, down}
use Rattle.dim_core.specs.Outline.{IsWeight}
use Rattle.dim_weights.specs.Coefficients.{weighted_sum}
use Rattle.dim_weights.proofs.Nonzero.{abs-plus}

-- a weighted sum by what it rises and what it falls
balance : (f : ℕ → ℤ) (parts : List (ℕ × ℤ))
    → up (weighted_sum f parts) + sum_by (λ part. down (part.1 *ℤ f part.0)) parts ≡ down (weighted_sum f parts) + sum_by (λ part. up (part.1 *ℤ f part.0)) parts
balance f [] = omega arith
balance f (p ∷ parts) =
    let rest = balance f parts in
    let ups = sum_by-cons (λ (part : ℕ × ℤ). up (part.1 *ℤ f part.0)) p parts in
    let downs = sum_by-cons (λ (part : ℕ × ℤ). down (part.1 *ℤ f part.0)) p parts in
    omega (arith, ints, rest, ups, downs)

-- the order of the components doesn't matter
pub weighted_sum-permuted : (f : ℕ → ℤ) (xs ys : List (ℕ × ℤ)) → IsPermutation xs ys → weighted_sum f ys ≡ weighted_sum f xs
weighted_sum-permuted f xs ys moved =
    let one = balance f xs in
    let two = balance f ys in
    let ups = sum_by-IsPermutation (λ (part : ℕ × ℤ). up (part.1 *ℤ f part.0)) xs ys moved in
    let downs = sum_by-IsPermutation (λ (part : ℕ × ℤ). down (part.1 *ℤ f part.0)) xs ys moved in
    omega (arith, ints, one, two, ups, downs)

-- one component is put in the place of another
weighted_sum-set : (f : ℕ → ℤ) (parts : List (ℕ × ℤ)) (i : ℕ) (d v : ℕ × ℤ) → i < length parts
    → weighted_sum f (set parts i v) +ℤ ((get_or parts i d).1 *ℤ f (get_or parts i d).0) ≡ weighted_sum f parts +ℤ (v.1 *ℤ f v.0)
weighted_sum-set f [] i d v within = absurd (omega arith)
weighted_sum-set f (p ∷ parts) zero d v within = omega (arith, ints)
weighted_sum-set f (p ∷ parts) (suc i) d v within = let rest = weighted_sum-set f parts i d v (omega arith) in omega (arith, ints, rest)

plus-times : (a b c : ℤ) → (a +ℤ b) *ℤ c ≡ (a *ℤ c) +ℤ (b *ℤ c)
plus-times a b c =
    let e : up (a +ℤ b) + (down a + down b) ≡ (up a + up b) + down (a +ℤ b) = omega (arith, ints) in
    omega (arith, ints, ap (λ (n : ℕ). n * up c) e, ap (λ (n : ℕ). n * down c) e)

-- a component takes one more weight
pub weighted_sum-more : (f : ℕ → ℤ) (parts : List (ℕ × ℤ)) (i : ℕ) (d : ℕ × ℤ) (w : ℤ) → i < length parts
    → weighted_sum f (set parts i ((get_or parts i d).0, (get_or parts i d).1 +ℤ w)) ≡ weighted_sum f parts +ℤ (w *ℤ f (get_or parts i d).0)
weighted_sum-more f parts i d w within =
    let put = weighted_sum-set f parts i d ((get_or parts i d).0, (get_or parts i d).1 +ℤ w) within in
    let both = plus-times (get_or parts i d).1 w (f (get_or parts i d).0) in
    omega (arith, ints, put, both)

pub raised : (m n : ℕ) (parts : List (ℕ × ℤ)) → m ≤ n → All (λ p. unsigned_abs p.1 ≤ m) parts → All (λ p. unsigned_abs p.1 ≤ n) parts
raised m n parts le small k d within = let at = small k d within in omega (arith, at, le)

pub small-more : (parts : List (ℕ × ℤ)) (i : ℕ) (d : ℕ × ℤ) (w : ℤ) (m : ℕ) → i < length parts → IsWeight w → All (λ p. unsigned_abs p.1 ≤ m) parts
    → All (λ p. unsigned_abs p.1 ≤ m + 1000000) (set parts i ((get_or parts i d).0, (get_or parts i d).1 +ℤ w))
small-more parts i d w m within weight small =
    let at = small i d within in
    let sum = abs-plus (get_or parts i d).1 w in
    All-set (λ p. unsigned_abs p.1 ≤ m + 1000000) parts i ((get_or parts i d).0, (get_or parts i d).1 +ℤ w) (omega (arith, at, sum, weight)) (raised m (m + 1000000) parts (omega arith) small)

pub within-more : (parts : List (ℕ × ℤ)) (i n : ℕ) (d : ℕ × ℤ) (w : ℤ) → i < length parts → All (λ p. p.0 < n) parts
    → All (λ p. p.0 < n) (set parts i ((get_or parts i d).0, (get_or parts i d).1 +ℤ w))
within-more parts i n d w there within =
    All-set (λ p. p.0 < n) parts i ((get_or parts i d).0, (get_or parts i d).1 +ℤ w) (within i d there) within

pub small-push : (parts : List (ℕ × ℤ)) (p : ℕ × ℤ) (m : ℕ) → IsWeight p.1 → All (λ p. unsigned_abs p.1 ≤ m) parts → All (λ p. unsigned_abs p.1 ≤ m + 1000000) (parts ++ p ∷ [])
small-push parts p m weight small = All-push (λ p. unsigned_abs p.1 ≤ m + 1000000) parts p (raised m (m + 1000000) parts (omega arith) small) (omega (arith, weight))
