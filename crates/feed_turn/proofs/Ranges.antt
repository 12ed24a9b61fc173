-- Tests of the elements of a dimension, one after another.
use Rattle.std.proofs.Common.{◌≡◌, ap, ◌∙◌, sym, arith, refl, ◌&&◌, ℕ, suc, ◌+◌, ◌<◌, Bool, true, false, Some, None, List, [], ◌∷◌, ◌++◌, length, get_or, filter, All, zero-add, subst, cond}
use Rattle.std.specs.List.{list_all, range_with_len, find}
use Rattle.std.proofs.lemmas.Bool.{and_from}
use Rattle.std.proofs.lemmas.List.Elements.{filter-append}
use Rattle.std.proofs.lemmas.List.Folds.{list_all_at, list_all-append}
use Rattle.std.proofs.lemmas.List.FromFn.{get_or-range_with_len, length-range_with_len}
use Rattle.std.proofs.lemmas.List.Sums.{list_all-from_AllPass}
use Rattle.dim_core.proofs.Keys.{find-position, find-none}
use Rattle.dim_weights.proofs.ByLevel.{range-push}
use Rattle.lists.proofs.Places.{position-first, position-none}

pub range-at : (n k d : ℕ) → k < n → get_or (range_with_len 0 n) k d ≡ k
range-at n k d low = get_or-range_with_len 0 n k d low ∙ zero-add k

pub within : (n k : ℕ) → k < length (range_with_len 0 n) → k < n
within n k low = omega (arith, low, length-range_with_len 0 n)

pub long : (n k : ℕ) → k < n → k < length (range_with_len 0 n)
long n k low = omega (arith, low, length-range_with_len 0 n)

-- what holds below a size holds of each element
pub all-range : (P : ℕ → Type 0) (n : ℕ) → ((k : ℕ) → k < n → P k) → All P (range_with_len 0 n)
all-range P n h k d low = let less = within n k low in subst P (sym (range-at n k d less)) (h k less)

module _ (p : ℕ → Bool) where
  pub all-fails : (n k : ℕ) → k < n → p k ≡ false → list_all p (range_with_len 0 n) ≡ false
  all-fails n k low off = list_all_at p (range_with_len 0 n) k 0 (long n k low) (ap p (range-at n k 0 low) ∙ off)

  pub all-next : (k : ℕ) → list_all p (range_with_len 0 k) ≡ true → p k ≡ true → list_all p (range_with_len 0 (k + 1)) ≡ true
  all-next k all on =
      ap (list_all p) (range-push k) ∙ list_all-append p (range_with_len 0 k) (k ∷ [])
      ∙ and_from (list_all p (range_with_len 0 k)) (list_all p (k ∷ [])) all (and_from (p k) true on refl)

  pub all-passes : (n : ℕ) → ((k : ℕ) → k < n → p k ≡ true) → list_all p (range_with_len 0 n) ≡ true
  all-passes n h = list_all-from_AllPass p (range_with_len 0 n) (all-range (λ k. p k ≡ true) n h)

  pub filter-next : (k : ℕ) → filter p (range_with_len 0 (k + 1)) ≡ filter p (range_with_len 0 k) ++ filter p (k ∷ [])
  filter-next k = ap (filter p) (range-push k) ∙ filter-append p (range_with_len 0 k) (k ∷ [])

  pub found-first : (n k : ℕ) → k < n → ((j : ℕ) → j < k → p j ≡ false) → p k ≡ true → find p (range_with_len 0 n) ≡ Some k
  found-first n k low before on =
      find-position p (range_with_len 0 n) k 0
      (position-first p (range_with_len 0 n) k 0 (long n k low) (λ j less. ap p (range-at n j 0 (omega (arith, less, low))) ∙ before j less) (ap p (range-at n k 0 low) ∙ on))
      ∙ ap Some (range-at n k 0 low)

  pub found-none : (n : ℕ) → ((j : ℕ) → j < n → p j ≡ false) → find p (range_with_len 0 n) ≡ None
  found-none n h = find-none p (range_with_len 0 n) (position-none p (range_with_len 0 n) (all-range (λ k. p k ≡ false) n h))

-- two tests that agree on the elements
module _ (p q : ℕ → Bool) where
  agree-filter : (xs : List ℕ) → All (λ x. p x ≡ q x) xs → filter p xs ≡ filter q xs
  agree-filter [] h = refl
  agree-filter (x ∷ xs) h = by (agree-filter xs (λ k d low. h (suc k) d (omega (arith, low)))) (h 0 x (omega arith))
    where
      by : filter p xs ≡ filter q xs → p x ≡ q x → cond (p x) (x ∷ filter p xs) (filter p xs) ≡ cond (q x) (x ∷ filter q xs) (filter q xs)
      by rest here = ap (λ b. cond b (x ∷ filter p xs) (filter p xs)) here ∙ ap (λ ys. cond (q x) (x ∷ ys) ys) rest

  agree-all : (xs : List ℕ) → All (λ x. p x ≡ q x) xs → list_all p xs ≡ list_all q xs
  agree-all [] h = refl
  agree-all (x ∷ xs) h = by (agree-all xs (λ k d low. h (suc k) d (omega (arith, low)))) (h 0 x (omega arith))
    where
      by : list_all p xs ≡ list_all q xs → p x ≡ q x → (p x && list_all p xs) ≡ (q x && list_all q xs)
      by rest here = ap (λ b. b && list_all p xs) here ∙ ap (λ b. q x && b) rest

  pub same-filter : (n : ℕ) → ((k : ℕ) → k < n → p k ≡ q k) → filter p (range_with_len 0 n) ≡ filter q (range_with_len 0 n)
  same-filter n h = agree-filter (range_with_len 0 n) (all-range (λ k. p k ≡ q k) n h)

  pub same-all : (n : ℕ) → ((k : ℕ) → k < n → p k ≡ q k) → list_all p (range_with_len 0 n) ≡ list_all q (range_with_len 0 n)
  same-all n h = agree-all (range_with_len 0 n) (all-range (λ k. p k ≡ q k) n h)
