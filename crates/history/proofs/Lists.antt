-- Which element of a list stands at a place, when the list goes on.
use Rattle.std.proofs.Common.{◌≡◌, ℕ, ◌+◌, ◌<◌, zero, suc, List, [], ◌∷◌, ◌++◌, length, drop, Some, refl, arith, ◌⊎◌, inl, inr}
use Rattle.std.specs.List.{slice_get}

module _ {A : Type 0} where
  pub get_left : (xs ys : List A) (k : ℕ) → k < length xs → slice_get (xs ++ ys) k ≡ slice_get xs k
  get_left [] ys k below = absurd (omega arith)
  get_left (x ∷ xs) ys zero below = refl
  get_left (x ∷ xs) ys (suc k) below = get_left xs ys k (omega arith)

  -- where an element of the whole stands: in the first part, or in the second
  pub get_split : (xs ys : List A) (k : ℕ) (y : A) → slice_get (xs ++ ys) k ≡ Some y
      → (slice_get xs k ≡ Some y) ⊎ ((j : ℕ) × (k ≡ length xs + j) × (slice_get ys j ≡ Some y))
  get_split [] ys k y is = inr (k, omega arith, is)
  get_split (x ∷ xs) ys zero y is = inl is
  get_split (x ∷ xs) ys (suc k) y is =
      elim (get_split xs ys k y is) [ inl here ↦ inl here | inr there ↦ inr (there.0, omega (arith, there.1), there.2) ]

  pub get_end : (xs : List A) (y : A) → slice_get (xs ++ y ∷ []) (length xs) ≡ Some y
  get_end [] y = refl
  get_end (x ∷ xs) y = get_end xs y

  pub get_here : (xs ys : List A) (k : ℕ) (y : A) → slice_get xs k ≡ Some y → slice_get (xs ++ ys) k ≡ Some y
  get_here [] ys k y is = cc
  get_here (x ∷ xs) ys zero y is = is
  get_here (x ∷ xs) ys (suc k) y is = get_here xs ys k y is

  pub get_drop : (n : ℕ) (xs : List A) (k : ℕ) (y : A) → slice_get (drop n xs) k ≡ Some y → slice_get xs (n + k) ≡ Some y
  get_drop zero xs k y is = let same : zero + k ≡ k = omega arith in rw same is
  get_drop (suc n) [] k y is = is
  get_drop (suc n) (x ∷ xs) k y is = let same : suc n + k ≡ suc (n + k) = omega arith in rw same (get_drop n xs k y is)
