-- The greatest of a function's numbers in a range.
use Rattle.std.proofs.Common.{◌≡◌, ap, arith, ℕ, zero, suc, ◌+◌, ◌<◌, ◌≤◌, max, map, inl, inr}
use Rattle.std.specs.List.{range_with_len}
use Rattle.std.proofs.lemmas.Bool.{cases_lt}
use Rattle.rule_model.specs.Order.{greatest}

module _ (f : ℕ → ℕ) where
  pub mapped-within : (a n most : ℕ) → ((k : ℕ) → a ≤ k → k < a + n → f k ≤ most) → greatest (map f (range_with_len a n)) ≤ most
  mapped-within a zero most all = omega arith
  mapped-within a (suc n) most all =
      let here : f a ≤ most = all a (omega arith) (omega arith) in
      omega (arith, here, mapped-within (a + 1) n most (λ k from low. all k (omega (arith, from)) (omega (arith, low))))

  pub mapped-holds : (a n k : ℕ) → a ≤ k → k < a + n → f k ≤ greatest (map f (range_with_len a n))
  mapped-holds a zero k from low = absurd (omega (arith, from, low))
  mapped-holds a (suc n) k from low = elim (cases_lt a k) [
    | inl after ↦ omega (arith, mapped-holds (a + 1) n k (omega (arith, after)) (omega (arith, low)))
    | inr before ↦ let same : a ≡ k = omega (arith, before, from) in let here : f a ≡ f k = ap f same in omega (arith, here)
  ]

  pub mapped-from : (a k j : ℕ) → k ≡ suc j → greatest (map f (range_with_len a k)) ≡ max (f a) (greatest (map f (range_with_len (a + 1) j)))
  mapped-from a k j e = ap (λ k. greatest (map f (range_with_len a k))) e
