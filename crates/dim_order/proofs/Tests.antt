-- Tests on the elements of a list.
use Rattle.std.proofs.Common.{◌≡◌, ◌⊎◌, inl, inr, ℕ, zero, suc, ◌<◌, ◌≤◌, Bool, true, false, ◌||◌, eqb, List, [], ◌∷◌, length, take, get_or, refl, sym, arith, All}
use Rattle.std.specs.List.{list_any, list_all}
use Rattle.std.proofs.lemmas.Bool.{eqb-true}
use Rattle.std.proofs.lemmas.List.Elements.{All-head, All-tail}
use Rattle.dim_order.specs.Members.{is_among}
pub use Rattle.std.proofs.lemmas.Bool.{or_parts as neither, and_parts as both, or_cases as either, or_left as first_holds, or_right as second_holds}

module _ {X : Type 0} (p q : X → Bool) where
  -- what passes the first test passes the second
  pub list_any-implied : ((x : X) → p x ≡ true → q x ≡ true) → (xs : List X) → list_any p xs ≡ true → list_any q xs ≡ true
  list_any-implied f [] h = absurd (cc)
  list_any-implied f (x ∷ xs) h = by (either (p x) (list_any p xs) h) (list_any-implied f xs)
    where
      by : (p x ≡ true) ⊎ (list_any p xs ≡ true) → (list_any p xs ≡ true → list_any q xs ≡ true) → (q x || list_any q xs) ≡ true
      by (inl here) rest = first_holds (q x) (list_any q xs) (f x here)
      by (inr there) rest = second_holds (q x) (list_any q xs) (rest there)

  -- some element passes the first, and all pass the second
  pub some_of_all : (xs : List X) → list_any p xs ≡ true → list_all q xs ≡ true → (x : X) × (p x ≡ true) × (q x ≡ true)
  some_of_all [] h g = absurd (cc)
  some_of_all (x ∷ xs) h g = by (either (p x) (list_any p xs) h) (both (q x) (list_all q xs) g) (some_of_all xs)
    where
      by : (p x ≡ true) ⊎ (list_any p xs ≡ true) → (q x ≡ true) × (list_all q xs ≡ true) → (list_any p xs ≡ true → list_all q xs ≡ true → (y : X) × (p y ≡ true) × (q y ≡ true)) → (y : X) × (p y ≡ true) × (q y ≡ true)
      by (inl here) all rest = (x, here, all.0)
      by (inr there) all rest = rest there all.1

  -- where what fails the first test fails the second, and all fail the first
  pub list_any-none_implied : (P : X → Type 0) → ((x : X) → P x → p x ≡ false → q x ≡ false) → (xs : List X) → All P xs → list_any p xs ≡ false → list_any q xs ≡ false
  list_any-none_implied P f [] all h = refl
  list_any-none_implied P f (x ∷ xs) all h =
      let none = neither (p x) (list_any p xs) h in
      let here = f x (All-head P x xs all) none.0 in
      let rest = list_any-none_implied P f xs (All-tail P x xs all) none.1 in
      rw here rest

-- where a member stands, among the first i
pub place_in_front : (xs : List ℕ) (i k : ℕ) → is_among (take i xs) k ≡ true → (j : ℕ) × (j < i) × (j < length xs) × (get_or xs j 0 ≡ k)
place_in_front [] zero k h = absurd (cc)
place_in_front [] (suc i) k h = absurd (cc)
place_in_front (x ∷ xs) zero k h = absurd (cc)
place_in_front (x ∷ xs) (suc i) k h = by (either (eqb k x) (is_among (take i xs) k) h) (place_in_front xs i k)
  where
    by : (eqb k x ≡ true) ⊎ (is_among (take i xs) k ≡ true) → (is_among (take i xs) k ≡ true → (j : ℕ) × (j < i) × (j < length xs) × (get_or xs j 0 ≡ k)) → (j : ℕ) × (j < suc i) × (j < suc (length xs)) × (get_or (x ∷ xs) j 0 ≡ k)
    by (inl here) rest = (0, omega arith, omega arith, sym (eqb-true k x here))
    by (inr there) rest = let r = rest there in (suc r.0, omega (arith, r.1), omega (arith, r.2), r.3)

-- and in the whole list
pub place_among : (xs : List ℕ) (k : ℕ) → is_among xs k ≡ true → (j : ℕ) × (j < length xs) × (get_or xs j 0 ≡ k)
place_among [] k h = absurd (cc)
place_among (x ∷ xs) k h = by (either (eqb k x) (is_among xs k) h) (place_among xs k)
  where
    by : (eqb k x ≡ true) ⊎ (is_among xs k ≡ true) → (is_among xs k ≡ true → (j : ℕ) × (j < length xs) × (get_or xs j 0 ≡ k)) → (j : ℕ) × (j < suc (length xs)) × (get_or (x ∷ xs) j 0 ≡ k)
    by (inl here) rest = (0, omega arith, sym (eqb-true k x here))
    by (inr there) rest = let r = rest there in (suc r.0, omega (arith, r.1), r.2)

-- among the first few is among the first more
pub is_among-take : (xs : List ℕ) (i j k : ℕ) → i ≤ j → is_among (take i xs) k ≡ true → is_among (take j xs) k ≡ true
is_among-take [] zero zero k le h = h
is_among-take [] zero (suc j) k le h = h
is_among-take [] (suc i) zero k le h = absurd (omega arith)
is_among-take [] (suc i) (suc j) k le h = h
is_among-take (x ∷ xs) zero j k le h = absurd (cc)
is_among-take (x ∷ xs) (suc i) zero k le h = absurd (omega arith)
is_among-take (x ∷ xs) (suc i) (suc j) k le h = by (either (eqb k x) (is_among (take i xs) k) h) (is_among-take xs i j k (omega arith))
  where
    by : (eqb k x ≡ true) ⊎ (is_among (take i xs) k ≡ true) → (is_among (take i xs) k ≡ true → is_among (take j xs) k ≡ true) → (eqb k x || is_among (take j xs) k) ≡ true
    by (inl here) rest = first_holds (eqb k x) (is_among (take j xs) k) here
    by (inr there) rest = second_holds (eqb k x) (is_among (take j xs) k) (rest there)
