-- The first place in a list that passes a test.
use Rattle.std.proofs.Common.{◌≡◌, ap, ℕ, ◌<◌, ◌≤◌, List, [], ◌∷◌, length, get_or, nat_lt, not, Bool, true, false, cond, Some, None, All, position, refl, arith}
use Rattle.std.specs.List.{position_or_len}
use Rattle.std.proofs.lemmas.Bool.Decides.{nat_tests}
use Rattle.std.proofs.lemmas.List.Sums.{prefix_len_passes, position_or_len_is}
use Rattle.std.proofs.lemmas.Bool.{not-true as not_true}
pub use Rattle.std.proofs.lemmas.List.{get_or_default as get_or_within}

none_here : (n m : ℕ) (b : Bool) → nat_lt n m ≡ b → cond b (Some n) None ≡ None → m ≤ n
none_here n m true e h = absurd (cc)
none_here n m false e h = grind (arith, nat_tests)

module _ {X : Type 0} (p : X → Bool) (xs : List X) where
  -- where there is no such place, no element passes
  pub none_passes : position p xs ≡ None → All (λ x. p x ≡ false) xs
  none_passes none k d within =
      let past = none_here (position_or_len p xs) (length xs) _ refl none in
      not_true (p (get_or xs k d)) (prefix_len_passes (λ x. not (p x)) xs k d (omega arith))

past_end : (n m : ℕ) → n ≡ m → cond (nat_lt n m) (Some n) None ≡ None
past_end n m e = by (nat_lt n m) refl
  where
    by : (b : Bool) → nat_lt n m ≡ b → cond b (Some n) None ≡ None
    by true t = absurd (grind (arith, nat_tests))
    by false t = refl

-- and the other way round
pub position-none : {X : Type 0} (p : X → Bool) (xs : List X) → All (λ x. p x ≡ false) xs → position p xs ≡ None
position-none p [] none = refl
position-none p (x ∷ xs) none =
    past_end (position_or_len p (x ∷ xs)) (length (x ∷ xs))
    (position_or_len_is p (x ∷ xs) (length (x ∷ xs)) x (omega arith) (λ k within. none k x within) (λ within. absurd (omega arith)))

-- the first element that passes
here_first : (n m i : ℕ) → n ≡ i → i < m → cond (nat_lt n m) (Some n) None ≡ Some i
here_first n m i e within = by (nat_lt n m) refl
  where
    by : (b : Bool) → nat_lt n m ≡ b → cond b (Some n) None ≡ Some i
    by true t = ap Some e
    by false t = absurd (grind (arith, nat_tests))

pub position-first : {X : Type 0} (p : X → Bool) (xs : List X) (i : ℕ) (d : X) → i < length xs → ((k : ℕ) → k < i → p (get_or xs k d) ≡ false) → p (get_or xs i d) ≡ true → position p xs ≡ Some i
position-first p xs i d within before here =
    here_first (position_or_len p xs) (length xs) i (position_or_len_is p xs i d (omega arith) before (λ _. here)) within
