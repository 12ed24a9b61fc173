-- A stable sort by level gives the elements level by level.
use Rattle.std.proofs.Common.{◌≡◌, ℕ, zero, suc, ◌+◌, ◌<◌, ◌≤◌, Bool, true, false, eqb, List, [], ◌∷◌, ◌++◌, length, get_or, filter, refl, ap, ◌∙◌, arith, All, Contains, slice_index}
use Rattle.std.specs.List.{range_with_len, flat_map}
use Rattle.std.specs.List.Sorted.{IsNonDecreasingBy}
use Rattle.std.proofs.lemmas.Bool.{eqb-true}
use Rattle.std.proofs.lemmas.Bool.Decides.{nat_tests}
use Rattle.std.proofs.lemmas.List.Elements.{All-head, All-tail}
use Rattle.std.proofs.lemmas.List.FromFn.{length-range_with_len, get_or-range_with_len}
use Rattle.std.specs.Ordering.{is_lt, nat_cmp}
use Rattle.std.specs.List.Sorted.{IsSortedByKey}
use Rattle.std.proofs.lemmas.List.Sorted.{All-permutation, Contains-permutation, length_permutation, ties_still_rise}
use Rattle.lists.proofs.Stable.{of_key, stable_of_key}
use Rattle.dim_core.specs.Outline.{Outline, IsDimension, IsElement, component_lists, level}
use Rattle.dim_weights.specs.Refusal.{of_level}
use Rattle.dim_order.specs.Levels.{AreLevels}
use Rattle.dim_weights.specs.Inside.Levels.{IsSortedByLevel, IsByLevel}
use Rattle.dim_core.proofs.LevelLaws.{length-component_lists, levels-below}

range-push-from : (n a : ℕ) → range_with_len a (suc n) ≡ range_with_len a n ++ (a + n) ∷ []
range-push-from zero a = let e : a + 0 ≡ a = omega arith in rw e refl
range-push-from (suc n) a = let rest = range-push-from n (a + 1) in let e : (a + 1) + n ≡ a + suc n = omega arith in ap (λ (xs : List ℕ). a ∷ xs) (rw e at rest)

pub range-push : (n : ℕ) → range_with_len 0 (n + 1) ≡ range_with_len 0 n ++ n ∷ []
range-push n = let all = range-push-from n 0 in let e : 0 + n ≡ n = omega arith in let f : n + 1 ≡ suc n = omega arith in rw f (rw e at all)

abbrev Ascends : (ℕ → ℕ) → ℕ → List ℕ → Type 0
Ascends key a [] = Unit {0}
Ascends key a (x ∷ xs) = (a ≤ key x) × Ascends key (key x) xs

ascends-after : (key : ℕ → ℕ) (x : ℕ) (xs : List ℕ) → IsNonDecreasingBy key (x ∷ xs) → Ascends key (key x) xs
ascends-after key x [] up = tt
ascends-after key x (y ∷ ys) up =
    (up 0 1 0 (omega arith) (omega arith), ascends-after key y ys (λ i j d le within. up (suc i) (suc j) d (omega arith) (omega arith)))

Ascends-from : (key : ℕ → ℕ) (xs : List ℕ) → IsNonDecreasingBy key xs → Ascends key 0 xs
Ascends-from key [] up = tt
Ascends-from key (x ∷ xs) up = (omega arith, ascends-after key x xs up)

flat_map-agree : (g h : ℕ → List ℕ) (m a : ℕ) → ((k : ℕ) → a ≤ k → g k ≡ h k) → flat_map g (range_with_len a m) ≡ flat_map h (range_with_len a m)
flat_map-agree g h zero a same = refl
flat_map-agree g h (suc m) a same = rw (same a (omega arith), flat_map-agree g h m (a + 1) (λ k le. same k (omega arith))) refl

none-below : (key : ℕ → ℕ) (k a : ℕ) (xs : List ℕ) → k < a → Ascends key a xs → of_key key xs k ≡ []
none-below key k a [] less up = refl
none-below key k a (x ∷ xs) less up =
    let first : a ≤ key x = up.0 in
    let other : eqb (key x) k ≡ false = grind (arith, nat_tests) in
    rw other (none-below key k (key x) xs (omega arith) up.1)

abbrev Splits : (ℕ → ℕ) → ℕ → Type 0
Splits key m = (a : ℕ) (xs : List ℕ) → Ascends key a xs → All (λ x. key x < a + m) xs → xs ≡ flat_map (of_key key xs) (range_with_len a m)

splits-more : (key : ℕ → ℕ) (m : ℕ) → Splits key m → (a : ℕ) (xs : List ℕ) → Ascends key a xs → All (λ x. key x < a + suc m) xs
    → xs ≡ of_key key xs a ++ flat_map (of_key key xs) (range_with_len (a + 1) m)
splits-more key m ih a [] up within = ih (a + 1) [] tt (λ k d low. absurd (omega arith))
splits-more key m ih a (x ∷ xs) up within =
    by (eqb (key x) a) refl
    (λ low. splits-more key m ih a xs low (All-tail (λ x. key x < a + suc m) x xs within))
    (λ low. ih (a + 1) (x ∷ xs) low (λ k d inside. let h : key (get_or (x ∷ xs) k d) < a + suc m = within k d inside in omega arith))
  where
    by : (b : Bool) → eqb (key x) a ≡ b
        → (Ascends key a xs → xs ≡ of_key key xs a ++ flat_map (of_key key xs) (range_with_len (a + 1) m))
        → (Ascends key (a + 1) (x ∷ xs) → (x ∷ xs) ≡ flat_map (of_key key (x ∷ xs)) (range_with_len (a + 1) m))
        → (x ∷ xs) ≡ of_key key (x ∷ xs) a ++ flat_map (of_key key (x ∷ xs)) (range_with_len (a + 1) m)
    by true e rest later =
        let same = eqb-true (key x) a e in
        let low = up.1 in
        let ih2 = rest (rw same at low) in
        let agree = flat_map-agree (of_key key (x ∷ xs)) (of_key key xs) m (a + 1) (λ k le. (let other : eqb (key x) k ≡ false = grind (arith, nat_tests) in rw other refl)) in
        rw (e, agree) (ap (λ (ys : List ℕ). x ∷ ys) ih2)
    by false e rest later =
        let low : a ≤ key x = up.0 in
        let next : a + 1 ≤ key x = grind (arith, nat_tests) in
        let none = none-below key a (a + 1) (x ∷ xs) (omega arith) (next, up.1) in
        rw none (later (next, up.1))

splits : (key : ℕ → ℕ) (m : ℕ) → Splits key m
splits key zero a [] up within = refl
splits key zero a (x ∷ xs) up within =
    let low : a ≤ key x = up.0 in
    let high : key x < a + 0 = All-head (λ x. key x < a + 0) x xs within in
    absurd (omega arith)
splits key (suc m) a xs up within = splits-more key m (splits key m) a xs up within

-- a stable sort keeps those of each key
filter-agree-all : (p q : ℕ → Bool) (xs : List ℕ) → All (λ x. p x ≡ q x) xs → filter p xs ≡ filter q xs
filter-agree-all p q [] all = refl
filter-agree-all p q (x ∷ xs) all = rw (All-head (λ x. p x ≡ q x) x xs all, filter-agree-all p q xs (All-tail (λ x. p x ≡ q x) x xs all)) refl

pub range-within : (n : ℕ) → All (λ x. x < n) (range_with_len 0 n)
range-within n k d within =
    let low : k < n = omega (arith, length-range_with_len 0 n) in
    let at = get_or-range_with_len 0 n k d low in
    omega arith

pub range-contains : (n k : ℕ) → k < n → Contains (range_with_len 0 n) k
range-contains n k low = (k, omega (arith, length-range_with_len 0 n), omega (arith, get_or-range_with_len 0 n k k low))

not-less : (a b : ℕ) → b ≤ a → is_lt (nat_cmp a b) ≡ false
not-less a b le = grind (arith, nat_tests)

range-sorted : (n : ℕ) → IsSortedByKey (λ (x : ℕ). x) nat_cmp (range_with_len 0 n)
range-sorted n k d low within =
    let next : k + 1 < n = omega (arith, within, length-range_with_len 0 n) in
    let one = get_or-range_with_len 0 n k d (omega arith) in
    let two = get_or-range_with_len 0 n (k + 1) d next in
    not-less (get_or (range_with_len 0 n) (k + 1) d) (get_or (range_with_len 0 n) k d) (omega (arith, one, two))

module _ (d : Outline) (dim : IsDimension d) (levels ys : List ℕ) (are : AreLevels (component_lists d.elements) levels) (sorted : IsSortedByLevel levels (range_with_len 0 (length d.elements)) ys) where
  inside : All (IsElement d) ys
  inside = All-permutation (IsElement d) (range_with_len 0 (length d.elements)) ys sorted.moved (range-within (length d.elements))

  level-at : (x : ℕ) → IsElement d x → slice_index levels x ≡ level d x
  level-at x here = are.each x (omega (arith, here, length-component_lists d))

  keys-below : All (λ x. slice_index levels x < 0 + length d.elements) ys
  keys-below k e within =
      let here = inside k e within in
      let same = level-at (get_or ys k e) here in
      let low = levels-below d dim (get_or ys k e) here in
      omega arith

  of-level : (k : ℕ) → of_key (slice_index levels) (range_with_len 0 (length d.elements)) k ≡ of_level d k
  of-level k =
      filter-agree-all (λ x. eqb (slice_index levels x) k) (λ x. eqb (level d x) k) (range_with_len 0 (length d.elements))
      (λ i e within. ap (λ (n : ℕ). eqb n k) (level-at (get_or (range_with_len 0 (length d.elements)) i e) (range-within (length d.elements) i e within)))

  pub IsByLevel-sorted : IsByLevel d ys
  IsByLevel-sorted = record {
    is = splits (slice_index levels) (length d.elements) 0 ys (Ascends-from (slice_index levels) ys sorted.rising) keys-below
        ∙ flat_map-agree (of_key (slice_index levels) ys) (of_level d) (length d.elements) 0 (λ k le. stable_of_key (slice_index levels) (range_with_len 0 (length d.elements)) ys sorted.stable k ∙ of-level k);
    rising = λ i j e le within.
        let one = level-at (get_or ys i e) (inside i e (omega arith)) in
        let two = level-at (get_or ys j e) (inside j e within) in
        let up = sorted.rising i j e le within in
        omega arith;
    ties = λ k e within same.
        let one = level-at (get_or ys k e) (inside k e (omega arith)) in
        let two = level-at (get_or ys (k + 1) e) (inside (k + 1) e within) in
        ties_still_rise (λ (x : ℕ). x) (slice_index levels) (range_with_len 0 (length d.elements)) ys (range-sorted (length d.elements)) sorted.stable k e within (omega (arith, one, two, same));
    within = inside;
    each = λ element here. Contains-permutation (range_with_len 0 (length d.elements)) ys element sorted.moved (range-contains (length d.elements) element here);
    whole = length_permutation (range_with_len 0 (length d.elements)) ys sorted.moved ∙ length-range_with_len 0 (length d.elements);
  }
