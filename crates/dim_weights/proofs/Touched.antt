-- The leaves that were touched are all that can have another sum than 0.
use Rattle.std.proofs.Common.{◌≡◌, ℕ, zero, suc, ◌+◌, ◌<◌, ◌≤◌, Bool, true, false, cond, eqb, ℤ, pos, List, [], ◌∷◌, get_or, refl, ap, sym, ◌∙◌, arith, All, count_by}
use Rattle.std.specs.List.{range_with_len}
use Rattle.std.specs.List.Sorted.{IsNonDecreasing}
use Rattle.std.proofs.lemmas.Bool.{eqb-true}
use Rattle.std.proofs.lemmas.Bool.Decides.{nat_tests}
use Rattle.std.proofs.lemmas.List.Elements.{All-tail, All-head}
use Rattle.std.proofs.lemmas.List.Sums.{sum_by-cons}
use Rattle.dim_weights.specs.Table.{nonzero_among}
use Rattle.dim_weights.proofs.Pairs.{skip-zero}

-- the numbers don't fall, by recursion, from this one on
abbrev pub AscendsFrom : ℕ → List ℕ → Type 0
AscendsFrom a [] = Unit {0}
AscendsFrom a (t ∷ ts) = (a ≤ t) × AscendsFrom t ts

ascends-after : (t : ℕ) (ts : List ℕ) → IsNonDecreasing (t ∷ ts) → AscendsFrom t ts
ascends-after t [] up = tt
ascends-after t (u ∷ us) up =
    (up 0 1 0 (omega arith) (omega arith), ascends-after u us (λ i j d le within. up (suc i) (suc j) d (omega arith) (omega arith)))

pub AscendsFrom-sorted : (ts : List ℕ) → IsNonDecreasing ts → AscendsFrom 0 ts
AscendsFrom-sorted [] up = tt
AscendsFrom-sorted (t ∷ ts) up = (omega arith, ascends-after t ts up)

abbrev count : ℕ → List ℕ → ℕ
count k ts = count_by (eqb k) ts

count-cons : (k t : ℕ) (ts : List ℕ) → count k (t ∷ ts) ≡ cond (eqb k t) 1 0 + count k ts
count-cons k t ts = sum_by-cons (λ x. cond (eqb k x) 1 0) t ts

count-by : (k t : ℕ) (ts : List ℕ) (b : Bool) → eqb k t ≡ b → count k (t ∷ ts) ≡ cond b 1 0 + count k ts
count-by k t ts b e = count-cons k t ts ∙ ap (λ (x : Bool). cond x 1 0 + count k ts) e

count-other : (k t : ℕ) (ts : List ℕ) → k < t → count k (t ∷ ts) ≡ count k ts
count-other k t ts less =
    let all = count-by k t ts false (grind (arith, nat_tests)) in
    omega (arith, all)

count-above : (k t : ℕ) (ts : List ℕ) → t < k → count k (t ∷ ts) ≡ count k ts
count-above k t ts less =
    let all = count-by k t ts false (grind (arith, nat_tests)) in
    omega (arith, all)

-- below the first there is none
count-below : (k a : ℕ) (ts : List ℕ) → k < a → AscendsFrom a ts → count k ts ≡ 0
count-below k a [] less up = refl
count-below k a (t ∷ ts) less up =
    let first : a ≤ t = up.0 in
    count-other k t ts (omega arith) ∙ count-below k t ts (omega arith) up.1

-- where the first isn't there, the numbers lie above it
ascends-next : (a : ℕ) (ts : List ℕ) → AscendsFrom a ts → count a ts ≡ 0 → AscendsFrom (a + 1) ts
ascends-next a [] up none = tt
ascends-next a (t ∷ ts) up none = by (eqb a t) refl
  where
    by : (b : Bool) → eqb a t ≡ b → (a + 1 ≤ t) × AscendsFrom t ts
    by true e =
        let all = count-by a t ts true e in
        absurd (omega (arith, all, none))
    by false e = let first : a ≤ t = up.0 in (grind (arith, nat_tests), up.1)

unmarked : (n : ℕ) (b : Bool) → n ≡ cond b 1 0 → n ≡ 0 → b ≡ false
unmarked n true h e = absurd (omega arith)
unmarked n false h e = refl

at_most_once : (n m : ℕ) (b : Bool) → n ≡ 1 + m → n ≡ cond b 1 0 → m ≡ 0
at_most_once n m true h e = omega arith
at_most_once n m false h e = absurd (omega arith)

module _ (f : ℕ → ℤ) (marked : ℕ → Bool) (rest : (k : ℕ) → marked k ≡ false → f k ≡ pos 0) where
  -- each marked number from a on stands once in the list
  abbrev Once : ℕ → List ℕ → Type 0
  Once a ts = (k : ℕ) → a ≤ k → count k ts ≡ cond (marked k) 1 0

  -- then the list has all values other than 0
  pub nonzero_among-touched : (n a : ℕ) (ts : List ℕ) → AscendsFrom a ts → All (λ t. t < a + n) ts → Once a ts → nonzero_among f ts ≡ nonzero_among f (range_with_len a n)
  nonzero_among-touched zero a [] up within once = refl
  nonzero_among-touched zero a (t ∷ ts) up within once =
      let low : a ≤ t = up.0 in
      let high : t < a + 0 = All-head (λ t. t < a + 0) t ts within in
      absurd (omega arith)
  nonzero_among-touched (suc n) a [] up within once =
      let none = rest a (unmarked 0 (marked a) (once a (omega arith)) refl) in
      nonzero_among-touched n (a + 1) [] tt (λ k d low. absurd (omega arith)) (λ k le. once k (omega arith))
      ∙ sym (skip-zero f a (range_with_len (a + 1) n) none)
  nonzero_among-touched (suc n) a (t ∷ ts) up within once =
      by (eqb a t) refl
      (λ low. nonzero_among-touched n (a + 1) ts low (All-tail (λ x. x < (a + 1) + n) t ts after))
      (λ low. nonzero_among-touched n (a + 1) (t ∷ ts) low after)
    where
      after : All (λ x. x < (a + 1) + n) (t ∷ ts)
      after k d low = let h : get_or (t ∷ ts) k d < a + suc n = within k d low in omega arith

      by : (b : Bool) → eqb a t ≡ b
          → (AscendsFrom (a + 1) ts → Once (a + 1) ts → nonzero_among f ts ≡ nonzero_among f (range_with_len (a + 1) n))
          → (AscendsFrom (a + 1) (t ∷ ts) → Once (a + 1) (t ∷ ts) → nonzero_among f (t ∷ ts) ≡ nonzero_among f (range_with_len (a + 1) n))
          → nonzero_among f (t ∷ ts) ≡ nonzero_among f (a ∷ range_with_len (a + 1) n)
      by true e taken skipped =
          let same : t ≡ a = sym (eqb-true a t e) in
          let none = at_most_once (count a (t ∷ ts)) (count a ts) (marked a) (count-by a t ts true e) (once a (omega arith)) in
          let low = up.1 in
          let later : AscendsFrom a ts = rw same at low in
          let ih = taken (ascends-next a ts later none) (λ k le. sym (count-above k t ts (omega arith)) ∙ once k (omega arith)) in
          rw (same, ih) refl
      by false e taken skipped =
          let low : a ≤ t = up.0 in
          let next : a + 1 ≤ t = grind (arith, nat_tests) in
          let none = rest a (unmarked (count a (t ∷ ts)) (marked a) (once a (omega arith)) (count-below a (a + 1) (t ∷ ts) (omega arith) (next, up.1))) in
          skipped (next, up.1) (λ k le. once k (omega arith)) ∙ sym (skip-zero f a (range_with_len (a + 1) n) none)
