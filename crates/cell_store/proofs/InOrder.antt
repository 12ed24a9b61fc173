-- Items in the order of their cells.
use Rattle.std.proofs.Common.{◌≡◌, ℕ, zero, suc, ◌+◌, ◌<◌, ◌≤◌, not, true, false, List, [], ◌∷◌, ◌++◌, length, map, ltb, leb, arith, get_or, refl, ap, sym, inl, inr, None, Some, append-nil, ◌-◌}
use Rattle.std.proofs.lemmas.Bool.Decides.{nat_tests, leb_tells}
use Rattle.std.specs.List.{slice_get, flat_map}
use Rattle.std.proofs.lemmas.List.{nil_from_length}
use Rattle.std.specs.List.Sorted.{IsNonDecreasingBy}
use Rattle.cell_store.specs.Inside.Order.{IsRising, at_least_by, first_from, EndsAt}
use Rattle.cell_store.proofs.Rising.{AllAbove, Rises, Rises-from_increasing}

pub leb_not_ltb : (a b : ℕ) → leb a b ≡ not (ltb b a)
leb_not_ltb a b = grind (arith, nat_tests)

pub ltb_not_leb : (a b : ℕ) → ltb a b ≡ not (leb b a)
ltb_not_leb a b = grind (arith, nat_tests)

-- the cells of the items rise, by recursion
abbrev pub InOrder : {X : Type 0} → (X → ℕ) → List X → Type 0
InOrder cell xs = Rises (map cell xs)

-- each item is above this cell, each at this cell or below
abbrev pub AllOver : {X : Type 0} → (X → ℕ) → ℕ → List X → Type 0
AllOver cell n xs = AllAbove n (map cell xs)

abbrev pub AllUpTo : {X : Type 0} → (X → ℕ) → ℕ → List X → Type 0
AllUpTo cell n [] = Unit {0}
AllUpTo cell n (x ∷ xs) = (cell x ≤ n) × AllUpTo cell n xs

module _ {X : Type 0} (cell : X → ℕ) where
  over_at : (n : ℕ) (xs : List X) → AllOver cell n xs → (j : ℕ) (d : X) → j < length xs → n < cell (get_or xs j d)
  over_at n [] above j d low = absurd (omega arith)
  over_at n (x ∷ xs) above zero d low = above.0
  over_at n (x ∷ xs) above (suc j) d low = over_at n xs above.1 j d (omega arith)

  non_decreasing : (xs : List X) → InOrder cell xs → IsNonDecreasingBy cell xs
  non_decreasing [] rises i j d le low = absurd (omega arith)
  non_decreasing (x ∷ xs) rises zero zero d le low = omega arith
  non_decreasing (x ∷ xs) rises zero (suc j) d le low = let later = over_at (cell x) xs rises.0 j d (omega arith) in omega arith
  non_decreasing (x ∷ xs) rises (suc i) zero d le low = absurd (omega arith)
  non_decreasing (x ∷ xs) rises (suc i) (suc j) d le low = non_decreasing xs rises.1 i j d (omega arith) (omega arith)

  pub IsNonDecreasingBy-from_rising : (xs : List X) → IsRising cell xs → IsNonDecreasingBy cell xs
  IsNonDecreasingBy-from_rising xs up = non_decreasing xs (Rises-from_increasing (map cell xs) up)

  -- the parts of items in order

  pub over-front : (n : ℕ) (front back : List X) → AllOver cell n (front ++ back) → AllOver cell n front
  over-front n [] back all = tt
  over-front n (x ∷ front) back all = (all.0, over-front n front back all.1)

  pub over-back : (n : ℕ) (front back : List X) → AllOver cell n (front ++ back) → AllOver cell n back
  over-back n [] back all = all
  over-back n (x ∷ front) back all = over-back n front back all.1

  pub over-append : (n : ℕ) (front back : List X) → AllOver cell n front → AllOver cell n back → AllOver cell n (front ++ back)
  over-append n [] back first second = second
  over-append n (x ∷ front) back first second = (first.0, over-append n front back first.1 second)

  pub in_order-front : (front back : List X) → InOrder cell (front ++ back) → InOrder cell front
  in_order-front [] back rises = tt
  in_order-front (x ∷ front) back rises = (over-front (cell x) front back rises.0, in_order-front front back rises.1)

  pub in_order-back : (front back : List X) → InOrder cell (front ++ back) → InOrder cell back
  in_order-back [] back rises = rises
  in_order-back (x ∷ front) back rises = in_order-back front back rises.1

  -- the first of the items at or above a cell
  pub first_at_least : (xs : List X) (k : ℕ) → slice_get (at_least_by cell xs k) 0 ≡ first_from cell xs k
  first_at_least [] k = refl
  first_at_least (x ∷ xs) k =
      elim (leb_tells k (cell x)) [
        | inl t ↦ rw t.0 refl
        | inr t ↦ rw t.0 (first_at_least xs k)
      ]

  -- where items end

  pub EndsAt-from_last : (xs : List X) (i : ℕ) (x : X) → i + 1 ≡ length xs → x ≡ get_or xs i x → EndsAt cell (cell x) xs
  EndsAt-from_last [] i x len is = absurd (omega arith)
  EndsAt-from_last (y ∷ []) zero x len is = ap cell (sym is)
  EndsAt-from_last (y ∷ []) (suc i) x len is = absurd (omega arith)
  EndsAt-from_last (y ∷ z ∷ xs) zero x len is = absurd (omega arith)
  EndsAt-from_last (y ∷ z ∷ xs) (suc i) x len is = EndsAt-from_last (z ∷ xs) i x (omega arith) is

  pub EndsAt-cons : (last : ℕ) (x : X) (xs : List X) → EndsAt cell last xs → EndsAt cell last (x ∷ xs)
  EndsAt-cons last x [] ends = absurd ends
  EndsAt-cons last x (y ∷ xs) ends = ends

  pub EndsAt-append : (last : ℕ) (xs ys : List X) → EndsAt cell last ys → EndsAt cell last (xs ++ ys)
  EndsAt-append last [] ys ends = ends
  EndsAt-append last (x ∷ xs) ys ends = EndsAt-cons last x (xs ++ ys) (EndsAt-append last xs ys ends)

  pub item_at : (xs : List X) (i : ℕ) (x : X) → slice_get xs i ≡ Some x → (i < length xs) × (x ≡ get_or xs i x)
  item_at [] i x is = absurd (cc)
  item_at (y ∷ xs) zero x is = (omega arith, cc)
  item_at (y ∷ xs) (suc i) x is = let later = item_at xs i x is in let low = later.0 in (omega arith, later.1)

  pub EndsAt-from_get : (xs : List X) (i : ℕ) (x : X) → i ≡ length xs - 1 → slice_get xs i ≡ Some x → EndsAt cell (cell x) xs
  EndsAt-from_get xs i x at is = let found = item_at xs i x is in let low = found.0 in EndsAt-from_last xs i x (omega arith) found.1

  no_item : (xs : List X) (i : ℕ) → slice_get xs i ≡ None → length xs ≤ i
  no_item [] i is = omega arith
  no_item (y ∷ xs) zero is = absurd (cc)
  no_item (y ∷ xs) (suc i) is = let later = no_item xs i is in omega arith

  pub nil_from_get : (xs : List X) (i : ℕ) → i ≡ length xs - 1 → slice_get xs i ≡ None → xs ≡ []
  nil_from_get xs i at is = let short = no_item xs i is in nil_from_length xs (omega arith)

  pub EndsAt-flat : {R : Type 0} (items : R → List X) (last : ℕ) (runs : List R) (i : ℕ) (r : R) → i ≡ length runs - 1 → slice_get runs i ≡ Some r → EndsAt cell last (items r) → EndsAt cell last (flat_map items runs)
  EndsAt-flat items last [] i r at is ends = absurd (cc)
  EndsAt-flat items last (x ∷ []) zero r at is ends = let same : x ≡ r = cc in rw (append-nil (items x), same) ends
  EndsAt-flat items last (x ∷ []) (suc i) r at is ends = absurd (omega arith)
  EndsAt-flat items last (x ∷ y ∷ runs) zero r at is ends = absurd (omega arith)
  EndsAt-flat items last (x ∷ y ∷ runs) (suc i) r at is ends = EndsAt-append last (items x) (flat_map items (y ∷ runs)) (EndsAt-flat items last (y ∷ runs) i r (omega arith) is ends)

  pub ends_over : (n last : ℕ) (xs : List X) → AllOver cell n xs → EndsAt cell last xs → n < last
  ends_over n last [] over ends = absurd ends
  ends_over n last (x ∷ []) over ends = let here = over.0 in omega (arith, ends)
  ends_over n last (x ∷ y ∷ xs) over ends = ends_over n last (y ∷ xs) over.1 ends

  pub ends_up_to : (last : ℕ) (xs : List X) → InOrder cell xs → EndsAt cell last xs → AllUpTo cell last xs
  ends_up_to last [] rises ends = absurd ends
  ends_up_to last (x ∷ []) rises ends = (omega (arith, ends), tt)
  ends_up_to last (x ∷ y ∷ xs) rises ends =
      let less = ends_over (cell x) last (y ∷ xs) rises.0 ends in
      (omega arith, ends_up_to last (y ∷ xs) rises.1 ends)

  pub over-ended : (last : ℕ) (xs ys : List X) → EndsAt cell last xs → InOrder cell (xs ++ ys) → AllOver cell last ys
  over-ended last [] ys ends rises = absurd ends
  over-ended last (x ∷ []) ys ends rises = rw ends at rises.0
  over-ended last (x ∷ y ∷ xs) ys ends rises = over-ended last (y ∷ xs) ys ends rises.1

  -- a search stops in the items that end at or above the cell, and goes past those below it

  pub first-stops : (xs ys : List X) (k last : ℕ) → EndsAt cell last xs → k ≤ last → first_from cell (xs ++ ys) k ≡ first_from cell xs k
  first-stops [] ys k last ends le = absurd ends
  first-stops (x ∷ []) ys k last ends le =
      let here : leb k (cell x) ≡ true = grind (arith, nat_tests, ends) in
      rw here refl
  first-stops (x ∷ y ∷ xs) ys k last ends le =
      elim (leb_tells k (cell x)) [
        | inl t ↦ rw t.0 refl
        | inr t ↦ rw t.0 (first-stops (y ∷ xs) ys k last ends le)
      ]

  pub first-passes : (xs ys : List X) (k : ℕ) (n : ℕ) → AllUpTo cell n xs → n < k → first_from cell (xs ++ ys) k ≡ first_from cell ys k
  first-passes [] ys k n up_to less = refl
  first-passes (x ∷ xs) ys k n up_to less =
      let low = up_to.0 in
      let here : leb k (cell x) ≡ false = grind (arith, nat_tests) in
      rw here (first-passes xs ys k n up_to.1 less)
