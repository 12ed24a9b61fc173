-- An element that a dimension is refused for is one of its elements.
use Rattle.std.proofs.Common.{◌≡◌, ℕ, zero, suc, ◌+◌, ◌<◌, ◌≤◌, Bool, true, false, Option, Some, None, List, [], ◌∷◌, ◌++◌, length, filter, take, get_or, refl, ap, ◌∙◌, subst, arith, nat_lt, cond, ◌⊎◌, inl, inr, Result, Err, IfSome, IfNone, IsOkUnless}
use Rattle.std.specs.List.{range_with_len, flat_map}
use Rattle.dim_core.specs.Outline.{Outline}
use Rattle.dim_weights.specs.declared.fault.WeightFault.{WeightFault}
use Rattle.dim_weights.specs.declared.fault.WeightFault.TheVariants.{CoefficientTooLarge, TooManyPairs, Memory}
use Rattle.dim_weights.specs.Table.{leaves_of, greatest_in}
use Rattle.dim_weights.specs.Refusal.{of_level, by_level, pair_count, fault_at, first_of_two, first_fault, refusal_of}

abbrev AreBelow : ℕ → List ℕ → Type 0
AreBelow n [] = Unit {0}
AreBelow n (x ∷ xs) = (x < n) × AreBelow n xs

below-append : (n : ℕ) (xs ys : List ℕ) → AreBelow n xs → AreBelow n ys → AreBelow n (xs ++ ys)
below-append n [] ys low high = high
below-append n (x ∷ xs) ys low high = (low.0, below-append n xs ys low.1 high)

below-range : (n start count : ℕ) → start + count ≤ n → AreBelow n (range_with_len start count)
below-range n start zero h = tt
below-range n start (suc count) h = (omega arith, below-range n (start + 1) count (omega arith))

below-filter : (n : ℕ) (p : ℕ → Bool) (xs : List ℕ) → AreBelow n xs → AreBelow n (filter p xs)
below-filter n p [] low = tt
below-filter n p (x ∷ xs) low = by (p x) (below-filter n p xs low.1)
  where
    by : (b : Bool) → AreBelow n (filter p xs) → AreBelow n (cond b (x ∷ filter p xs) (filter p xs))
    by true rest = (low.0, rest)
    by false rest = rest

below-flat : (n : ℕ) (f : ℕ → List ℕ) (xs : List ℕ) → ((x : ℕ) → AreBelow n (f x)) → AreBelow n (flat_map f xs)
below-flat n f [] each = tt
below-flat n f (x ∷ xs) each = below-append n (f x) (flat_map f xs) (each x) (below-flat n f xs each)

below-at : (n : ℕ) (xs : List ℕ) (k : ℕ) → 0 < n → AreBelow n xs → get_or xs k 0 < n
below-at n [] k some low = some
below-at n (x ∷ xs) zero some low = low.0
below-at n (x ∷ xs) (suc k) some low = below-at n xs k some low.1

ordered : (d : Outline) → AreBelow (length d.elements) (by_level d)
ordered d =
    let n = length d.elements in
    below-flat n (of_level d) (range_with_len 0 n) (λ level. below-filter n _ (range_with_len 0 n) (below-range n 0 n (omega arith)))

named : (element count e : ℕ) (large many : Bool) → cond large (Some (CoefficientTooLarge element)) (cond many (Some (TooManyPairs count)) None) ≡ Some (CoefficientTooLarge e) → element ≡ e
named element count e true many h = cc
named element count e false true h = absurd (cc)
named element count e false false h = absurd (cc)

module _ (d : Outline) (e : ℕ) where
  fault-named : (place : ℕ) → fault_at d (by_level d) place ≡ Some (CoefficientTooLarge e) → get_or (by_level d) place 0 ≡ e
  fault-named place h =
      let element = get_or (by_level d) place 0 in
      let count = pair_count d (take (place + 1) (by_level d)) in
      named element count e (nat_lt 1000000000 (greatest_in (leaves_of d element))) (nat_lt 4000000 count) h

  first-named : (places : List ℕ) → 0 < length d.elements → first_fault (fault_at d (by_level d)) places ≡ Some (CoefficientTooLarge e) → e < length d.elements
  first-named [] some h = absurd (cc)
  first-named (place ∷ places) some h = by (fault_at d (by_level d) place) refl h (first-named places some)
    where
      by : (fault : Option WeightFault) → fault_at d (by_level d) place ≡ fault → first_of_two fault (first_fault (fault_at d (by_level d)) places) ≡ Some (CoefficientTooLarge e)
          → (first_fault (fault_at d (by_level d)) places ≡ Some (CoefficientTooLarge e) → e < length d.elements) → e < length d.elements
      by None is same later = later same
      by (Some fault) is same later =
          let element = fault-named place (is ∙ same) in
          let low = below-at (length d.elements) (by_level d) place some (ordered d) in
          omega (arith, element, low)

  pub element-there : refusal_of d ≡ Some (CoefficientTooLarge e) → e < length d.elements
  element-there h = by (length d.elements) refl
    where
      by : (n : ℕ) → length d.elements ≡ n → e < length d.elements
      by zero none =
          let P : ℕ → Type 0 = λ n. first_fault (fault_at d (by_level d)) (range_with_len 0 n) ≡ Some (CoefficientTooLarge e) in
          absurd (cc (subst P none h))
      by (suc n) some = first-named (range_with_len 0 (length d.elements)) (omega arith) h

abbrev err_of : (T : Type 0) → WeightFault → Result T WeightFault
err_of T fault = Err fault

-- the answer names an element only as the refusal
pub answer-there : (T : Type 0) (d : Outline) (e : ℕ) (told : WeightFault) → told ≡ CoefficientTooLarge e → IfSome (refusal_of d) (λ fault. (err_of T told ≡ Err fault) ⊎ (err_of T told ≡ Err Memory))
    → IfNone (refusal_of d) (IsOkUnless (err_of T told) Memory) → e < length d.elements
answer-there T d e told is refused accepted = by (refusal_of d) refl refused accepted
  where
    by : (cause : Option WeightFault) → refusal_of d ≡ cause → IfSome cause (λ fault. (err_of T told ≡ Err fault) ⊎ (err_of T told ≡ Err Memory)) → IfNone cause (IsOkUnless (err_of T told) Memory) → e < length d.elements
    by (Some fault) same (inl shown) none =
        let named' : fault ≡ CoefficientTooLarge e = cc in
        element-there d e (same ∙ ap Some named')
    by (Some fault) same (inr memory) none = absurd (cc)
    by None same some okay = absurd (cc)
