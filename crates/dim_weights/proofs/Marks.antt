-- Marked leaves, and sums that are set back to 0.
use Rattle.std.proofs.Common.{◌≡◌, ◌≢◌, ◌⊎◌, inl, inr, ℕ, ◌<◌, ◌≤◌, Bool, true, false, cond, eqb, ℤ, pos, unsigned_abs, List, [], ◌∷◌, ◌++◌, length, get_or, set, refl, ap, sym, ◌∙◌, arith, All, count_by, SomeIndex}
use Rattle.std.specs.List.{range_with_len, list_any}
use Rattle.std.specs.List.Sorted.{IsPermutation, IsNonDecreasing}
use Rattle.std.proofs.Math.ListN.{length-set}
use Rattle.std.proofs.lemmas.Bool.{eqb-true, eq-eqb, cases_lt}
use Rattle.std.proofs.lemmas.List.{get_or-set_same, get_or-set_other, get_or_past}
use Rattle.std.proofs.lemmas.List.Sorted.{sum_by-IsPermutation}
use Rattle.std.proofs.lemmas.List.Sums.{sum_by-cons, sum_by_push, get_or-le-sum_by}
use Rattle.dim_order.proofs.Tests.{neither}
use Rattle.dim_weights.specs.Table.{nonzero_among, greatest_in}
use Rattle.dim_weights.specs.Inside.Sums.{sum_at, AreZero, IsTouched, ArePut}
use Rattle.dim_weights.proofs.Pairs.{differ, greatest-range}
use Rattle.dim_weights.proofs.Touched.{AscendsFrom-sorted, nonzero_among-touched}

abbrev one_if : Bool → ℕ
one_if b = cond b 1 0

-- a leaf is marked, and listed where it wasn't
module _ (sums : List ℤ) (marked : List Bool) (touched : List ℕ) (leaf : ℕ) (v : ℤ) (within : leaf < length sums) (is : IsTouched sums marked touched) where
  once-here : (b : Bool) → get_or marked leaf false ≡ b → count_by (eqb leaf) (cond b touched (touched ++ leaf ∷ [])) ≡ 1
  once-here true e = is.once leaf ∙ ap one_if e
  once-here false e =
      let before : count_by (eqb leaf) touched ≡ 0 = is.once leaf ∙ ap one_if e in
      let one : one_if (eqb leaf leaf) ≡ 1 = ap one_if (eq-eqb leaf leaf refl) in
      let all = sum_by_push (λ x. cond (eqb leaf x) 1 0) touched leaf in
      omega (arith, all, one, before)

  once-other : (k : ℕ) → k ≢ leaf → (b : Bool) → count_by (eqb k) (cond b touched (touched ++ leaf ∷ [])) ≡ count_by (eqb k) touched
  once-other k other true = refl
  once-other k other false =
      let none : one_if (eqb k leaf) ≡ 0 = ap one_if (differ k leaf other) in
      let all = sum_by_push (λ x. cond (eqb k x) 1 0) touched leaf in
      omega (arith, all, none)

  pub IsTouched-add : IsTouched (set sums leaf v) (set marked leaf true) (cond (get_or marked leaf false) touched (touched ++ leaf ∷ []))
  IsTouched-add = record {
    whole = omega (arith, length-set sums leaf v, length-set marked leaf true, is.whole);
    once = once;
    rest = rest;
  }
    where
      inside : leaf < length marked
      inside = omega (arith, is.whole)

      once : (k : ℕ) → count_by (eqb k) (cond (get_or marked leaf false) touched (touched ++ leaf ∷ [])) ≡ cond (get_or (set marked leaf true) k false) 1 0
      once k = by (eqb k leaf) refl
        where
          by : (b : Bool) → eqb k leaf ≡ b → count_by (eqb k) (cond (get_or marked leaf false) touched (touched ++ leaf ∷ [])) ≡ cond (get_or (set marked leaf true) k false) 1 0
          by true e =
              let same = eqb-true k leaf e in
              let mark : get_or (set marked leaf true) k false ≡ true = ap (λ (x : ℕ). get_or (set marked leaf true) x false) same ∙ get_or-set_same marked leaf true false inside in
              ap (λ (x : ℕ). count_by (eqb x) (cond (get_or marked leaf false) touched (touched ++ leaf ∷ []))) same
              ∙ (once-here (get_or marked leaf false) refl ∙ sym (ap one_if mark))
          by false e =
              let other : k ≢ leaf = (λ same. let t = eq-eqb k leaf same in cc) in
              once-other k other (get_or marked leaf false) ∙ (is.once k ∙ ap one_if (sym (get_or-set_other marked leaf k true false other)))

      rest : (k : ℕ) → get_or (set marked leaf true) k false ≡ false → sum_at (set sums leaf v) k ≡ pos 0
      rest k none = by (eqb k leaf) refl
        where
          by : (b : Bool) → eqb k leaf ≡ b → sum_at (set sums leaf v) k ≡ pos 0
          by true e =
              let same = eqb-true k leaf e in
              let mark : get_or (set marked leaf true) k false ≡ true = ap (λ (x : ℕ). get_or (set marked leaf true) x false) same ∙ get_or-set_same marked leaf true false inside in
              absurd (cc)
          by false e =
              let other : k ≢ leaf = (λ same. let t = eq-eqb k leaf same in cc) in
              let unmarked : get_or marked k false ≡ false = sym (get_or-set_other marked leaf k true false other) ∙ none in
              get_or-set_other sums leaf k v (pos 0) other ∙ is.rest k unmarked

-- the list may be sorted
pub IsTouched-permuted : (sums : List ℤ) (marked : List Bool) (ts us : List ℕ) → IsPermutation ts us → IsTouched sums marked ts → IsTouched sums marked us
IsTouched-permuted sums marked ts us moved is = record {
  whole = is.whole;
  once = λ k. sum_by-IsPermutation (λ x. cond (eqb k x) 1 0) ts us moved ∙ is.once k;
  rest = is.rest;
}

-- what is listed is a leaf
pub touched-within : (sums : List ℤ) (marked : List Bool) (ts : List ℕ) → IsTouched sums marked ts → All (λ t. t < length sums) ts
touched-within sums marked ts is k d within = by (cases_lt (get_or ts k d) (length marked))
  where
    by : (get_or ts k d < length marked) ⊎ (length marked ≤ get_or ts k d) → get_or ts k d < length sums
    by (inl inside) = omega (arith, is.whole)
    by (inr past) =
        let none : one_if (get_or marked (get_or ts k d) false) ≡ 0 = ap one_if (get_or_past marked (get_or ts k d) false past) in
        let one : one_if (eqb (get_or ts k d) (get_or ts k d)) ≡ 1 = ap one_if (eq-eqb (get_or ts k d) (get_or ts k d) refl) in
        let some = get_or-le-sum_by (λ x. cond (eqb (get_or ts k d) x) 1 0) ts k d within in
        let all = is.once (get_or ts k d) in
        absurd (omega (arith, none, one, some, all))

none-counted : (k : ℕ) (ts : List ℕ) → list_any (eqb k) ts ≡ false → count_by (eqb k) ts ≡ 0
none-counted k [] none = refl
none-counted k (t ∷ ts) none =
    let tests = neither (eqb k t) (list_any (eqb k) ts) none in
    let here : one_if (eqb k t) ≡ 0 = ap one_if tests.0 in
    let rest = none-counted k ts tests.1 in
    let all = sum_by-cons (λ x. cond (eqb k x) 1 0) t ts in
    omega (arith, all, here, rest)

unmarked : (b : Bool) → 0 ≡ one_if b → b ≡ false
unmarked true h = absurd (omega arith)
unmarked false h = refl

-- all sums are set back
module _ (sums sums' : List ℤ) (marked marked' : List Bool) (ts : List ℕ) (is : IsTouched sums marked ts) (zeros : ArePut ts (pos 0) sums sums') (marks : ArePut ts false marked marked') where
  pub cleared-zero : AreZero sums'
  cleared-zero k = zeros.1 k ∙ by (list_any (eqb k) ts) refl
    where
      by : (b : Bool) → list_any (eqb k) ts ≡ b → cond b (pos 0) (sum_at sums k) ≡ pos 0
      by true e = refl
      by false e = is.rest k (unmarked (get_or marked k false) (sym (none-counted k ts e) ∙ is.once k))

  cleared-mark : (k : ℕ) → get_or marked' k false ≡ false
  cleared-mark k = marks.1 k ∙ by (list_any (eqb k) ts) refl
    where
      by : (b : Bool) → list_any (eqb k) ts ≡ b → cond b false (get_or marked k false) ≡ false
      by true e = refl
      by false e = unmarked (get_or marked k false) (sym (none-counted k ts e) ∙ is.once k)

  pub IsTouched-cleared : IsTouched sums' marked' []
  IsTouched-cleared = record {
    whole = omega (arith, zeros.0, marks.0, is.whole);
    once = λ k. sym (ap one_if (cleared-mark k));
    rest = λ k none. cleared-zero k;
  }

-- the sorted list has all sums other than 0
pub touched-pairs : (sums : List ℤ) (marked : List Bool) (ts : List ℕ) → IsTouched sums marked ts → IsNonDecreasing ts
    → nonzero_among (sum_at sums) ts ≡ nonzero_among (sum_at sums) (range_with_len 0 (length sums))
touched-pairs sums marked ts is up =
    let inside = touched-within sums marked ts is in
    nonzero_among-touched (sum_at sums) (λ k. get_or marked k false) is.rest (length sums) 0 ts (AscendsFrom-sorted ts up)
    (λ k d within. let at = inside k d within in omega arith) (λ k le. is.once k)

pub large-pair : (sums : List ℤ) → SomeIndex sums (λ leaf. 1000000000 < unsigned_abs (sum_at sums leaf)) → 1000000000 < greatest_in (nonzero_among (sum_at sums) (range_with_len 0 (length sums)))
large-pair sums large =
    let most = greatest-range (sum_at sums) (length sums) 0 large.0 (omega arith) (omega (arith, large.1)) in
    omega (arith, large.2)
