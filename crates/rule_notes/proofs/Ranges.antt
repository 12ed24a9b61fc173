-- Tests, searches and lists over a range of numbers.
use Rattle.std.proofs.Common.{◌≡◌, refl, sym, ap, ◌∙◌, arith, subst, ℕ, zero, suc, ◌+◌, ◌<◌, ◌≤◌, Bool, true, false, ◌&&◌, cond, inl, inr, Some, List, ◌++◌, Contains}
use Rattle.std.specs.List.{list_all, find, flat_map, range_with_len}
use Rattle.std.proofs.lemmas.Bool.{cases_lt, and_parts, and_from}
use Rattle.std.proofs.lemmas.List.{append-nil, append_assoc}
use Rattle.std.proofs.lemmas.List.Elements.{Contains-append_left, Contains-append_right, Contains-append_cases}

-- ---- each passes

module _ (test : ℕ → Bool) where
  pub each-passes : (a n : ℕ) → list_all test (range_with_len a n) ≡ true → (k : ℕ) → a ≤ k → k < a + n → test k ≡ true
  each-passes a zero all k from low = absurd (omega (arith, from, low))
  each-passes a (suc n) all k from low =
      let parts = and_parts (test a) (list_all test (range_with_len (a + 1) n)) all in
      elim (cases_lt a k) [
        | inl after ↦ each-passes (a + 1) n parts.1 k (omega (arith, after)) (omega (arith, low))
        | inr here ↦ let same : a ≡ k = omega (arith, here, from) in subst (λ k. test k ≡ true) same parts.0
      ]

  pub passes-each : (a n : ℕ) → ((k : ℕ) → a ≤ k → k < a + n → test k ≡ true) → list_all test (range_with_len a n) ≡ true
  passes-each a zero each = refl
  passes-each a (suc n) each =
      and_from (test a) (list_all test (range_with_len (a + 1) n)) (each a (omega arith) (omega arith))
      (passes-each (a + 1) n (λ k from low. each k (omega (arith, from)) (omega (arith, low))))

  -- the first of them, less one that is looked at
  pub all-more : (a k j : ℕ) → k ≡ suc j → list_all test (range_with_len a k) ≡ test a && list_all test (range_with_len (a + 1) j)
  all-more a k j e = ap (λ k. list_all test (range_with_len a k)) e

  pub find-more : (a k j : ℕ) → k ≡ suc j → find test (range_with_len a k) ≡ cond (test a) (Some a) (find test (range_with_len (a + 1) j))
  find-more a k j e = ap (λ k. find test (range_with_len a k)) e

  -- ---- the first that passes

  pub record IsFirst (a n k : ℕ) : Type 0 where
    pub from : a ≤ k
    pub low : k < a + n
    pub passes : test k ≡ true
    pub before : (j : ℕ) → a ≤ j → j < k → test j ≡ false

  pub found-first : (a n k : ℕ) → find test (range_with_len a n) ≡ Some k → IsFirst a n k
  found-first a zero k is = absurd (cc)
  found-first a (suc n) k is = by (test a) refl is (found-first (a + 1) n k)
    where
      by : (t : Bool) → test a ≡ t → cond t (Some a) (find test (range_with_len (a + 1) n)) ≡ Some k → (find test (range_with_len (a + 1) n) ≡ Some k → IsFirst (a + 1) n k) → IsFirst a (suc n) k
      by true is here later =
          let same : a ≡ k = cc in
          record { from = omega (arith, same); low = omega (arith, same); passes = ap test (sym same) ∙ is; before = λ j from low. absurd (omega (arith, from, low, same)) }
      by false is here later =
          let rest = later here in
          record {
            from = omega (arith, rest.from);
            low = omega (arith, rest.low);
            passes = rest.passes;
            before = λ j from low. elim (cases_lt a j) [
              | inl after ↦ rest.before j (omega (arith, after)) low
              | inr first ↦ let same : j ≡ a = omega (arith, first, from) in ap test same ∙ is
            ];
          }

  pub first-found : (a n k : ℕ) → IsFirst a n k → find test (range_with_len a n) ≡ Some k
  first-found a zero k is = absurd (omega (arith, is.from, is.low))
  first-found a (suc n) k is = elim (cases_lt a k) [
    | inl after ↦
        ap (λ t. cond t (Some a) (find test (range_with_len (a + 1) n))) (is.before a (omega arith) after)
        ∙ first-found (a + 1) n k (record { from = omega (arith, after); low = omega (arith, is.low); passes = is.passes; before = λ j from low. is.before j (omega (arith, from)) low })
    | inr here ↦
        let same : a ≡ k = omega (arith, here, is.from) in
        ap (λ t. cond t (Some a) (find test (range_with_len (a + 1) n))) (ap test same ∙ is.passes) ∙ ap Some same
  ]

-- ---- the items of lists, one list for each number

module _ {X : Type 0} (f : ℕ → List X) where
  pub lists-more : (a k j : ℕ) → k ≡ suc j → flat_map f (range_with_len a k) ≡ f a ++ flat_map f (range_with_len (a + 1) j)
  lists-more a k j e = ap (λ k. flat_map f (range_with_len a k)) e

  -- the items so far and those that are left, with one number more; and with none left
  pub items-more : (before now all : List X) (here : List X) (a k j : ℕ) → k ≡ suc j → now ≡ before ++ here → here ≡ f a → before ++ flat_map f (range_with_len a k) ≡ all
      → now ++ flat_map f (range_with_len (a + 1) j) ≡ all
  items-more before now all here a k j e is own so =
      ap (λ l. l ++ flat_map f (range_with_len (a + 1) j)) (is ∙ ap (λ l. before ++ l) own)
      ∙ append_assoc before (f a) (flat_map f (range_with_len (a + 1) j)) ∙ ap (λ l. before ++ l) (sym (lists-more a k j e)) ∙ so

  pub items-done : (now all : List X) (a k : ℕ) → k ≡ 0 → now ++ flat_map f (range_with_len a k) ≡ all → now ≡ all
  items-done now all a k none so = sym (append-nil now) ∙ ap (λ n. now ++ flat_map f (range_with_len a n)) (sym none) ∙ so

  pub record IsInOne (a n : ℕ) (x : X) : Type 0 where
    pub number : ℕ
    pub from : a ≤ number
    pub low : number < a + n
    pub has : Contains (f number) x

  pub in-one : (a n : ℕ) (x : X) → Contains (flat_map f (range_with_len a n)) x → IsInOne a n x
  in-one a zero x has = absurd (omega (arith, has.1))
  in-one a (suc n) x has = elim (Contains-append_cases (f a) (flat_map f (range_with_len (a + 1) n)) x has) [
    | inl here ↦ record { number = a; from = omega arith; low = omega arith; has = here }
    | inr later ↦
        let rest = in-one (a + 1) n x later in
        record { number = rest.number; from = omega (arith, rest.from); low = omega (arith, rest.low); has = rest.has }
  ]

  pub one-in : (a n : ℕ) (x : X) → IsInOne a n x → Contains (flat_map f (range_with_len a n)) x
  one-in a zero x is = absurd (omega (arith, is.from, is.low))
  one-in a (suc n) x is = elim (cases_lt a is.number) [
    | inl after ↦
        Contains-append_right (f a) (flat_map f (range_with_len (a + 1) n)) x
        (one-in (a + 1) n x (record { number = is.number; from = omega (arith, after); low = omega (arith, is.low); has = is.has }))
    | inr here ↦
        let same : is.number ≡ a = omega (arith, here, is.from) in
        Contains-append_left (f a) (flat_map f (range_with_len (a + 1) n)) x (subst (λ k. Contains (f k) x) same is.has)
  ]
