-- Sums by leaf.
use Rattle.std.proofs.Common.{◌≡◌, ◌≢◌, ℕ, suc, ◌+◌, ◌*◌, ◌<◌, ◌≤◌, ◌^◌, min, Bool, true, false, cond, eqb, ℤ, pos, ◌+ℤ◌, ◌*ℤ◌, unsigned_abs, List, [], ◌∷◌, ◌++◌, length, take, get_or, set, refl, ap, sym, ◌∙◌, subst, arith, length-take}
use Rattle.std.proofs.Math.Nat.{mul-le-mul}
use Rattle.std.proofs.lemmas.Bool.{eqb-true, eq-eqb}
use Rattle.std.proofs.lemmas.Int.{ints, unsigned_abs-mul}
use Rattle.std.proofs.lemmas.List.{get_or-take, get_or-set_same, get_or-set_other, take_more}
use borrow.Author.Differences.{up, down}
use Rattle.dim_weights.specs.Coefficients.{weighted_sum}
use Rattle.dim_weights.specs.Table.{share, greatest_in, leaves_in}
use Rattle.dim_weights.specs.Inside.Rows.{AreMerged, counted_over, most_merged_weight}
use Rattle.dim_weights.specs.Inside.Sums.{sum_at, AreZero, IsRow, AreRows, AreWithin}
use Rattle.dim_weights.proofs.Pairs.{share-push, share-size, greatest_in-take}
use Rattle.dim_weights.proofs.Nonzero.{abs-plus}

times-plus : (w s c : ℤ) → w *ℤ (s +ℤ c) ≡ (w *ℤ s) +ℤ (w *ℤ c)
times-plus w s c =
    let e : up (s +ℤ c) + (down s + down c) ≡ (up s + up c) + down (s +ℤ c) = omega (arith, ints) in
    omega (arith, ints, ap (λ (n : ℕ). up w * n) e, ap (λ (n : ℕ). down w * n) e)

-- one sum is written
sum_at-set : (sums : List ℤ) (leaf k : ℕ) (v : ℤ) → leaf < length sums → sum_at (set sums leaf v) k ≡ cond (eqb leaf k) v (sum_at sums k)
sum_at-set sums leaf k v within = by (eqb leaf k) refl
  where
    by : (b : Bool) → eqb leaf k ≡ b → sum_at (set sums leaf v) k ≡ cond b v (sum_at sums k)
    by true e = ap (λ (x : ℕ). get_or (set sums leaf v) x (pos 0)) (sym (eqb-true leaf k e)) ∙ get_or-set_same sums leaf v (pos 0) within
    by false e = let other : k ≢ leaf = (λ same. let t = eq-eqb leaf k (sym same) in cc) in get_or-set_other sums leaf k v (pos 0) other

-- a pair is added
pub row-step : (sums first : List ℤ) (row : List (ℕ × ℤ)) (w : ℤ) (i : ℕ) → i < length row → (get_or row i (0, pos 0)).0 < length sums
    → ((k : ℕ) → sum_at sums k ≡ sum_at first k +ℤ (w *ℤ share (take i row) k))
    → (k : ℕ) → sum_at (set sums (get_or row i (0, pos 0)).0 (sum_at sums (get_or row i (0, pos 0)).0 +ℤ (w *ℤ (get_or row i (0, pos 0)).1))) k ≡ sum_at first k +ℤ (w *ℤ share (take (i + 1) row) k)
row-step sums first row w i within inside before k =
    let pair = get_or row i (0, pos 0) in
    let at = sum_at-set sums pair.0 k (sum_at sums pair.0 +ℤ (w *ℤ pair.1)) inside in
    let more = ap (λ ps. share ps k) (take_more row i (0, pos 0) within) ∙ share-push (take i row) pair k in
    at ∙ by (eqb pair.0 k) refl ∙ ap (λ (s : ℤ). sum_at first k +ℤ (w *ℤ s)) (sym more)
  where
    by : (b : Bool) → eqb (get_or row i (0, pos 0)).0 k ≡ b
        → cond b (sum_at sums (get_or row i (0, pos 0)).0 +ℤ (w *ℤ (get_or row i (0, pos 0)).1)) (sum_at sums k)
        ≡ sum_at first k +ℤ (w *ℤ (share (take i row) k +ℤ cond b (get_or row i (0, pos 0)).1 (pos 0)))
    by true e =
        let same = eqb-true (get_or row i (0, pos 0)).0 k e in
        let here = ap (sum_at sums) same ∙ before k in
        let both = times-plus w (share (take i row) k) (get_or row i (0, pos 0)).1 in
        omega (arith, ints)
    by false e =
        let here = before k in
        let none : share (take i row) k +ℤ pos 0 ≡ share (take i row) k = omega (arith, ints) in
        rw none here

-- a weight times what a row says of a leaf
row-bound : (row : List (ℕ × ℤ)) (leaf : ℕ) → greatest_in row ≤ 1000000000 → length row ≤ 4000000 → unsigned_abs (share row leaf) ≤ 4000000000000000
row-bound row leaf small few =
    let size = share-size 1000000000 row leaf small in
    let all = mul-le-mul {n₁ = length row} {m₁ = 1000000000} {n₂ = 4000000} {m₂ = 1000000000} few (omega arith) in
    omega arith

pub share-bound : (n : ℕ) (row : List (ℕ × ℤ)) (leaf : ℕ) → IsRow n row → unsigned_abs (share row leaf) ≤ 4000000000000000
share-bound n row leaf is = row-bound row leaf is.small is.few

share-bound-take : (n : ℕ) (row : List (ℕ × ℤ)) (i leaf : ℕ) → IsRow n row → unsigned_abs (share (take i row) leaf) ≤ 4000000000000000
share-bound-take n row i leaf is =
    let most = greatest_in-take row i in
    let small = is.small in
    row-bound (take i row) leaf (omega arith) (omega (arith, length-take i row, is.few))

pub times-bound : (w c : ℤ) (m : ℕ) → unsigned_abs w ≤ most_merged_weight → unsigned_abs c ≤ m → unsigned_abs (w *ℤ c) ≤ 1000000000000 * m
times-bound w c m weight small =
    let size = unsigned_abs-mul w c in
    let all = mul-le-mul {n₁ = unsigned_abs w} {m₁ = unsigned_abs c} {n₂ = 1000000000000} {m₂ = m} weight small in
    omega arith

pub row-fits : (n : ℕ) (sums first : List ℤ) (row : List (ℕ × ℤ)) (w c : ℤ) (i leaf : ℕ) → IsRow n row → unsigned_abs w ≤ most_merged_weight → AreWithin (10 ^ 34) first → unsigned_abs c ≤ 1000000000
    → sum_at sums leaf ≡ sum_at first leaf +ℤ (w *ℤ share (take i row) leaf) → unsigned_abs (sum_at sums leaf +ℤ (w *ℤ c)) < 170141183460469231731687303715884105728
row-fits n sums first row w c i leaf is weight room small before =
    let share_size = times-bound w (share (take i row) leaf) 4000000000000000 weight (share-bound-take n row i leaf is) in
    let one = times-bound w c 1000000000 weight small in
    let sum = abs-plus (sum_at sums leaf) (w *ℤ c) in
    let front = abs-plus (sum_at first leaf) (w *ℤ share (take i row) leaf) in
    let old = room leaf in
    let size : unsigned_abs (sum_at sums leaf) ≡ unsigned_abs (sum_at first leaf +ℤ (w *ℤ share (take i row) leaf)) = ap unsigned_abs before in
    omega arith

-- weighted sums
pub weighted_sum-push : (f : ℕ → ℤ) (parts : List (ℕ × ℤ)) (p : ℕ × ℤ) → weighted_sum f (parts ++ p ∷ []) ≡ weighted_sum f parts +ℤ (p.1 *ℤ f p.0)
weighted_sum-push f [] p = omega (arith, ints)
weighted_sum-push f (q ∷ parts) p = let rest = weighted_sum-push f parts p in omega (arith, ints)

pub weighted_sum-size : (f : ℕ → ℤ) (m : ℕ) → ((x : ℕ) → unsigned_abs (f x) ≤ m) → (parts : List (ℕ × ℤ)) → ((k : ℕ) (d : ℕ × ℤ) → k < length parts → unsigned_abs (get_or parts k d).1 ≤ most_merged_weight)
    → unsigned_abs (weighted_sum f parts) ≤ length parts * (1000000000000 * m)
weighted_sum-size f m small [] weights = omega arith
weighted_sum-size f m small (p ∷ parts) weights =
    let rest = weighted_sum-size f m small parts (λ k d within. weights (suc k) d (omega arith)) in
    let here = times-bound p.1 (f p.0) m (weights 0 p (omega arith)) (small p.0) in
    let sum = abs-plus (p.1 *ℤ f p.0) (weighted_sum f parts) in
    omega arith

-- the sums after some components
pub parts-room : (n : ℕ) (rows : List (List (ℕ × ℤ))) (parts : List (ℕ × ℤ)) (i leaf : ℕ) → AreRows n rows → AreMerged n parts
    → unsigned_abs (weighted_sum (λ part. share (leaves_in rows part) leaf) (take i parts)) ≤ 10000000000000000000000000000000000
parts-room n rows parts i leaf are is =
    let size = weighted_sum-size (λ part. share (leaves_in rows part) leaf) 4000000000000000 (λ x. share-bound n (leaves_in rows x) leaf (are x)) (take i parts)
    (λ k d within.
    let long : k < min i (length parts) = rw length-take at within in
    let same : get_or (take i parts) k d ≡ get_or parts k d = get_or-take i parts k d (omega arith) in
    let P : ℕ × ℤ → Type 0 = λ p. unsigned_abs p.1 ≤ most_merged_weight in
    subst P (sym same) (is.small k d (omega arith))) in
    let few : length (take i parts) ≤ 1000000 = omega (arith, length-take i parts, is.few) in
    let all = mul-le-mul {n₁ = length (take i parts)} {m₁ = 4000000000000000000000000000} {n₂ = 1000000} {m₂ = 4000000000000000000000000000} few (omega arith) in
    omega arith

pub parts-step : (f : ℕ → ℤ) (parts : List (ℕ × ℤ)) (i : ℕ) (old new : ℤ) → i < length parts → old ≡ weighted_sum f (take i parts)
    → new ≡ old +ℤ ((get_or parts i (0, pos 0)).1 *ℤ f (get_or parts i (0, pos 0)).0) → new ≡ weighted_sum f (take (i + 1) parts)
parts-step f parts i old new within before added =
    let more = take_more parts i (0, pos 0) within in
    let push = weighted_sum-push f (take i parts) (get_or parts i (0, pos 0)) in
    rw (more, push, ← before) added

-- a leaf counts in itself
pub leaf-sums : (sums : List ℤ) (rows : List (List (ℕ × ℤ))) (element : ℕ) (parts : List (ℕ × ℤ)) → length parts ≡ 0 → AreZero sums → element < length sums
    → (leaf : ℕ) → sum_at (set sums element (sum_at sums element +ℤ pos 1)) leaf ≡ counted_over rows element parts leaf
leaf-sums sums rows element [] none zeros within leaf = sum_at-set sums element leaf _ within ∙ by (eqb element leaf)
  where
    by : (b : Bool) → cond b (sum_at sums element +ℤ pos 1) (sum_at sums leaf) ≡ cond b (pos 1) (pos 0)
    by true = let at = zeros element in rw at refl
    by false = zeros leaf
leaf-sums sums rows element (p ∷ parts) none zeros within leaf = absurd (omega arith)

pub parts-sums : (rows : List (List (ℕ × ℤ))) (element : ℕ) (parts : List (ℕ × ℤ)) → 0 < length parts
    → (leaf : ℕ) → weighted_sum (λ part. share (leaves_in rows part) leaf) parts ≡ counted_over rows element parts leaf
parts-sums rows element [] some leaf = absurd (omega arith)
parts-sums rows element (p ∷ parts) some leaf = refl
