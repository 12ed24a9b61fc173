-- The first of the pairs of numbers that count.
use Rattle.std.proofs.Common.{◌≡◌, ◌≢◌, ◌∙◌, refl, sym, ap, subst, arith, ℕ, ◌+◌, ◌<◌, ◌≤◌, zero, suc, leb, inl, inr, ◌⊎◌, Bool, true, false, ℤ, pos, List, [], ◌∷◌, Option, None, Some, find, length, get_or, drop, take, ◌-◌, ltb, map}
use Rattle.std.specs.List.{range_with_len, slice_get}
use Rattle.std.specs.List.Sorted.{IsNonDecreasingBy, IsPartitionedBy, IsPartitionPoint}
use Rattle.std.proofs.lemmas.Bool.{ltb-true}
use Rattle.std.proofs.lemmas.List.{get_or-map, length-map}
use Rattle.std.proofs.lemmas.List.Kept.{AllPairs-from_increasing}
use Rattle.std.proofs.lemmas.List.Sorted.{IsPartitionedBy-ltb}
use Rattle.std.proofs.lemmas.Bool.{cases_eq}
use Rattle.std.proofs.lemmas.Bool.Decides.{leb_tells, nat_tests}
use Rattle.dim_weights.specs.Table.{is_nonzero, nonzero_among, IsRising}
use Rattle.sparse_sum.specs.Inside.First.{IsClear, IsFirst}
pub use Rattle.dim_weights.proofs.Nonzero.{zero-is as nonzero-is, counts-nonzero, nonzero-counts}

module _ (c : ℕ → ℤ) (from : ℕ) where
  abbrev first_among : ℕ → ℕ → Option (ℕ × ℤ)
  first_among s m = find (λ pair. leb from pair.0) (nonzero_among c (range_with_len s m))

  none-among : (s m : ℕ) → first_among s m ≡ None → (n : ℕ) → s ≤ n → from ≤ n → n < s + m → c n ≡ pos 0
  none-among s zero is n low begin less = absurd (omega (arith, low, less))
  none-among s (suc m) is n low begin less = by (is_nonzero (c s)) refl (leb from s) refl (cases_eq n s)
      (λ rest apart. none-among (s + 1) m rest n (omega (arith, low, apart)) begin (omega (arith, less)))
    where
      by : (b : Bool) → is_nonzero (c s) ≡ b → (t : Bool) → leb from s ≡ t → (n ≡ s) ⊎ (n ≡ s → ⊥)
          → (first_among (s + 1) m ≡ None → (n ≡ s → ⊥) → c n ≡ pos 0) → c n ≡ pos 0
      by false off t tells (inl same) later = ap c same ∙ nonzero-is (c s) off
      by false off t tells (inr apart) later = later (rw off at is) apart
      by true on true tells which later = let found : Some (s, c s) ≡ None = rw (on, tells) at is in absurd (cc)
      by true on false tells (inl same) later = let high : leb from s ≡ true = grind (arith, nat_tests, begin, same) in absurd (cc)
      by true on false tells (inr apart) later = later (rw (on, tells) at is) apart

  record IsFound (s m : ℕ) (p : ℕ × ℤ) : Type 0 where
    pub low : s ≤ p.0
    pub within : p.0 < s + m
    pub least : from ≤ p.0
    pub own : c p.0 ≡ p.1
    pub counts : p.1 ≢ pos 0
    pub clear : (n : ℕ) → s ≤ n → from ≤ n → n < p.0 → c n ≡ pos 0

  some-among : (s m : ℕ) (p : ℕ × ℤ) → first_among s m ≡ Some p → IsFound s m p
  some-among s zero p is = absurd (cc)
  some-among s (suc m) p is = by (is_nonzero (c s)) refl (leb_tells from s) (λ rest none. later none (some-among (s + 1) m p rest))
    where
      later : (from ≤ s → c s ≡ pos 0) → IsFound (s + 1) m p → IsFound s (suc m) p
      later none f =
          record {
            low = let l = f.low in omega (arith, l);
            within = let l = f.within in omega (arith, l);
            least = f.least;
            own = f.own;
            counts = f.counts;
            clear = λ n low begin less. (elim (cases_eq n s) [
              | inl same ↦ ap c same ∙ none (omega (arith, begin, same))
              | inr apart ↦ f.clear n (omega (arith, low, apart)) begin less
            ]);
          }

      here : (s, c s) ≡ p → is_nonzero (c s) ≡ true → from ≤ s → IsFound s (suc m) p
      here same on begin =
          subst (IsFound s (suc m)) same (record {
            low = omega arith;
            within = omega arith;
            least = begin;
            own = refl;
            counts = nonzero-counts (c s) on;
            clear = λ n low begun less. absurd (omega (arith, low, less));
          })

      by : (b : Bool) → is_nonzero (c s) ≡ b → ((leb from s ≡ true) × (from ≤ s)) ⊎ ((leb from s ≡ false) × (s < from))
          → (first_among (s + 1) m ≡ Some p → (from ≤ s → c s ≡ pos 0) → IsFound s (suc m) p) → IsFound s (suc m) p
      by false off tells more = more (rw off at is) (λ _. nonzero-is (c s) off)
      by true on (inl t) more = (let found : Some (s, c s) ≡ Some p = rw (on, t.0) at is in let same : (s, c s) ≡ p = cc in here same on t.1)
      by true on (inr t) more = more (rw (on, t.0) at is) (λ begin. absurd (omega (arith, begin, t.1)))

  pub found-none : (size : ℕ) → find (λ pair. leb from pair.0) (nonzero_among c (range_with_len 0 size)) ≡ None → IsClear c from size
  found-none size is n begin less = none-among 0 size is n (omega arith) begin (omega (arith, less))

  pub found-some : (size : ℕ) (p : ℕ × ℤ) → find (λ pair. leb from pair.0) (nonzero_among c (range_with_len 0 size)) ≡ Some p → IsFirst c size from p
  found-some size p is =
      let f = some-among 0 size p is in
      record {
        least = f.least;
        within = let l = f.within in omega (arith, l);
        own = f.own;
        counts = f.counts;
        clear = λ n begin less. f.clear n (omega arith) begin less;
      }

-- the first pair at or above a number stands where a binary search ends
pub first-at : (ps : List (ℕ × ℤ)) (k i : ℕ) (d : ℕ × ℤ) → ((j : ℕ) → j < i → j < length ps → (get_or ps j d).0 < k) → ((j : ℕ) → i ≤ j → j < length ps → k ≤ (get_or ps j d).0)
    → slice_get (drop i ps) 0 ≡ find (λ pair. leb k pair.0) ps
first-at [] k zero d below above = refl
first-at [] k (suc i) d below above = refl
first-at (p ∷ ps) k zero d below above =
    let low : k ≤ p.0 = above 0 (omega arith) (omega arith) in
    let passes : leb k p.0 ≡ true = grind (arith, nat_tests, low) in
    rw passes refl
first-at (p ∷ ps) k (suc i) d below above =
    let high : p.0 < k = below 0 (omega arith) (omega arith) in
    let fails : leb k p.0 ≡ false = grind (arith, nat_tests, high) in
    rw fails (first-at ps k i d (λ j less within. below (suc j) (omega (arith, less)) (omega (arith, within))) (λ j le within. above (suc j) (omega (arith, le)) (omega (arith, within))))

rising-order : (ps : List (ℕ × ℤ)) → IsRising ps → IsNonDecreasingBy (λ (p : ℕ × ℤ). p.0) ps
rising-order ps rising i j d le low = elim (cases_eq i j) [
  | inl same ↦ (let e : (get_or ps i d).0 ≡ (get_or ps j d).0 = ap (λ (n : ℕ). (get_or ps n d).0) same in omega (arith, e))
  | inr apart ↦ (let pairs = AllPairs-from_increasing (map (λ (p : ℕ × ℤ). p.0) ps) rising in
      let long = length-map ps (λ (p : ℕ × ℤ). p.0) in
      let less = pairs i j 0 (omega (arith, le, apart)) (omega (arith, low, long)) in
      let one = get_or-map (λ (p : ℕ × ℤ). p.0) ps i d 0 (omega (arith, le, low)) in
      let two = get_or-map (λ (p : ℕ × ℤ). p.0) ps j d 0 low in
      omega (arith, less, one, two))
]

-- the pair at a place
at-place : (ps : List (ℕ × ℤ)) (i : ℕ) (p d : ℕ × ℤ) → slice_get ps i ≡ Some p → (i < length ps) × (get_or ps i d ≡ p)
at-place [] i p d is = absurd (cc)
at-place (q ∷ ps) zero p d is = (omega arith, cc)
at-place (q ∷ ps) (suc i) p d is = let later = at-place ps i p d is in let low = later.0 in (omega arith, later.1)

get-of-drop : (ps : List (ℕ × ℤ)) (i : ℕ) → slice_get (drop i ps) 0 ≡ slice_get ps i
get-of-drop [] zero = refl
get-of-drop [] (suc i) = refl
get-of-drop (p ∷ ps) zero = refl
get-of-drop (p ∷ ps) (suc i) = get-of-drop ps i

below-later : (ps : List (ℕ × ℤ)) → IsRising ps → (i j : ℕ) (d : ℕ × ℤ) → i < j → j < length ps → (get_or ps i d).0 < (get_or ps j d).0
below-later ps rising i j d less low =
    let pairs = AllPairs-from_increasing (map (λ (p : ℕ × ℤ). p.0) ps) rising in
    let long = length-map ps (λ (p : ℕ × ℤ). p.0) in
    let rises = pairs i j 0 less (omega (arith, low, long)) in
    let one = get_or-map (λ (p : ℕ × ℤ). p.0) ps i d 0 (omega (arith, less, low)) in
    let two = get_or-map (λ (p : ℕ × ℤ). p.0) ps j d 0 low in
    omega (arith, rises, one, two)

-- a pair at or above a number is the first, if those before it are below
found-at : (ps : List (ℕ × ℤ)) (k i : ℕ) (p : ℕ × ℤ) → IsRising ps → slice_get ps i ≡ Some p → k ≤ p.0
    → ((j : ℕ) → j < i → j < length ps → (get_or ps j (0, pos 0)).0 < k) → Some p ≡ find (λ pair. leb k pair.0) ps
found-at ps k i p rising is le below =
    let here = at-place ps i p (0, pos 0) is in
    let first : slice_get (drop i ps) 0 ≡ find (λ pair. leb k pair.0) ps =
    first-at ps k i (0, pos 0) below (λ j later within. (let up = rising-order ps rising i j (0, pos 0) later within in let same = ap (λ (q : ℕ × ℤ). q.0) here.1 in omega (arith, up, same, le))) in
    sym (sym first ∙ (get-of-drop ps i ∙ is))

pub found-first : (ps : List (ℕ × ℤ)) (k : ℕ) (p : ℕ × ℤ) → IsRising ps → slice_get ps 0 ≡ Some p → k ≤ p.0 → Some p ≡ find (λ pair. leb k pair.0) ps
found-first ps k p rising is le = found-at ps k 0 p rising is le (λ j less within. absurd (omega (arith, less)))

pub found-equal : (ps : List (ℕ × ℤ)) (k i : ℕ) (p : ℕ × ℤ) → IsRising ps → slice_get ps i ≡ Some p → p.0 ≡ k → Some p ≡ find (λ pair. leb k pair.0) ps
found-equal ps k i p rising is same =
    found-at ps k i p rising is (omega (arith, same))
    (λ j less within. (let here = at-place ps i p (0, pos 0) is in let low = here.0 in let at = ap (λ (q : ℕ × ℤ). q.0) here.1 in let up = below-later ps rising j i (0, pos 0) less low in omega (arith, up, at, same)))

pub parted-by : (ps : List (ℕ × ℤ)) (k : ℕ) → IsRising ps → IsPartitionedBy (λ (p : ℕ × ℤ). ltb p.0 k) ps
parted-by ps k rising = IsPartitionedBy-ltb (λ (p : ℕ × ℤ). p.0) ps k (rising-order ps rising)

pub first-of-point : (ps : List (ℕ × ℤ)) (k i : ℕ) → IsPartitionPoint (λ (p : ℕ × ℤ). ltb p.0 k ≡ true) (λ (p : ℕ × ℤ). ltb p.0 k ≡ false) ps i → slice_get (drop i ps) 0 ≡ find (λ pair. leb k pair.0) ps
first-of-point ps k i point =
    first-at ps k i (0, pos 0) (λ j less within. ltb-true _ k (point.0 j (0, pos 0) (omega arith) less)) (λ j le within. (let e = point.1 j (0, pos 0) le within in high (get_or ps j (0, pos 0)).0 e))
  where
    high : (x : ℕ) → ltb x k ≡ false → k ≤ x
    high x e = grind (arith, nat_tests, e)

-- a part up to the end
pub up-to-end : (ps : List (ℕ × ℤ)) (i : ℕ) → i ≤ length ps → take (length ps - i) (drop i ps) ≡ drop i ps
up-to-end [] zero le = refl
up-to-end [] (suc i) le = absurd (omega (arith, le))
up-to-end (p ∷ ps) zero le = let e : suc (length ps) - 0 ≡ suc (length ps) = omega arith in rw e (ap (λ (xs : List (ℕ × ℤ)). p ∷ xs) (whole ps))
  where
    whole : (ys : List (ℕ × ℤ)) → take (length ys) ys ≡ ys
    whole [] = refl
    whole (y ∷ ys) = ap (λ (zs : List (ℕ × ℤ)). y ∷ zs) (whole ys)
up-to-end (p ∷ ps) (suc i) le = let e : suc (length ps) - suc i ≡ length ps - i = omega arith in rw e (up-to-end ps i (omega (arith, le)))
