-- What is left of a walk, as it goes on.
use Rattle.std.proofs.Common.{◌≡◌, ◌∙◌, refl, sym, ap, subst, arith, ℕ, ◌+◌, ◌<◌, ◌≤◌, zero, suc, leb, inl, inr, ◌⊎◌, Bool, true, false, ℤ, List, [], ◌∷◌, filter}
use Rattle.std.specs.List.{range_with_len}
use Rattle.std.proofs.lemmas.Bool.{cases_eq}
use Rattle.std.proofs.lemmas.Bool.Decides.{leb_tells, nat_tests}
use Rattle.dim_weights.specs.Table.{is_nonzero, nonzero_among}

-- those that aren't leaf cells may be looked at too, where none of them counts
pub among-all : (w : ℕ → ℤ) (leaf : ℕ → Bool) (s m : ℕ) → ((n : ℕ) → s ≤ n → n < s + m → is_nonzero (w n) ≡ true → leaf n ≡ true)
    → nonzero_among w (filter leaf (range_with_len s m)) ≡ nonzero_among w (range_with_len s m)
among-all w leaf s zero all = refl
among-all w leaf s (suc m) all = by (leaf s) refl (is_nonzero (w s)) refl (among-all w leaf (s + 1) m (λ n low less. all n (omega (arith, low)) (omega (arith, less))))
  where
    by : (l : Bool) → leaf s ≡ l → (b : Bool) → is_nonzero (w s) ≡ b → nonzero_among w (filter leaf (range_with_len (s + 1) m)) ≡ nonzero_among w (range_with_len (s + 1) m)
        → nonzero_among w (filter leaf (range_with_len s (suc m))) ≡ nonzero_among w (range_with_len s (suc m))
    by true is true on rest = rw (is, on) (ap (λ (xs : List (ℕ × ℤ)). (s, w s) ∷ xs) rest)
    by true is false off rest = rw (is, off) rest
    by false is false off rest = rw (is, off) rest
    by false is true on rest = let yes = all s (omega arith) (omega arith) on in absurd (cc)

module _ (w : ℕ → ℤ) (live : ℕ → Bool) where
  -- the numbers that count and are live, from this one on
  abbrev pub lefts : ℕ → List ℕ → List (ℕ × ℤ)
  lefts from numbers = filter (λ pair. leb from pair.0) (filter (λ pair. live pair.0) (nonzero_among w numbers))

  -- nothing that counts and is live, from this number to before that
  abbrev pub IsQuiet : ℕ → ℕ → Type 0
  IsQuiet from end = (n : ℕ) → from ≤ n → n < end → is_nonzero (w n) ≡ true → live n ≡ true → ⊥

  -- a walk can go on to where nothing was passed
  skip : (from to s m : ℕ) → from ≤ to → ((n : ℕ) → s ≤ n → n < s + m → from ≤ n → n < to → is_nonzero (w n) ≡ true → live n ≡ true → ⊥)
      → lefts from (range_with_len s m) ≡ lefts to (range_with_len s m)
  skip from to s zero le quiet = refl
  skip from to s (suc m) le quiet = by (is_nonzero (w s)) refl (live s) refl (skip from to (s + 1) m le (λ n low less. quiet n (omega (arith, low)) (omega (arith, less)))) (leb_tells from s) (leb_tells to s)
    where
      by : (b : Bool) → is_nonzero (w s) ≡ b → (l : Bool) → live s ≡ l → lefts from (range_with_len (s + 1) m) ≡ lefts to (range_with_len (s + 1) m)
          → ((leb from s ≡ true) × (from ≤ s)) ⊎ ((leb from s ≡ false) × (s < from)) → ((leb to s ≡ true) × (to ≤ s)) ⊎ ((leb to s ≡ false) × (s < to))
          → lefts from (range_with_len s (suc m)) ≡ lefts to (range_with_len s (suc m))
      by false off l is rest one two = rw off rest
      by true on false is rest one two = rw (on, is) rest
      by true on true is rest (inl one) (inl two) = rw (on, is, one.0, two.0) (ap (λ (xs : List (ℕ × ℤ)). (s, w s) ∷ xs) rest)
      by true on true is rest (inr one) (inr two) = rw (on, is, one.0, two.0) rest
      by true on true is rest (inl one) (inr two) = absurd (quiet s (omega arith) (omega arith) one.1 two.1 on is)
      by true on true is rest (inr one) (inl two) = absurd (omega (arith, le, one.1, two.1))

  none : (from s m : ℕ) → ((n : ℕ) → s ≤ n → n < s + m → from ≤ n → is_nonzero (w n) ≡ true → live n ≡ true → ⊥) → lefts from (range_with_len s m) ≡ []
  none from s zero quiet = refl
  none from s (suc m) quiet = by (is_nonzero (w s)) refl (live s) refl (none from (s + 1) m (λ n low less. quiet n (omega (arith, low)) (omega (arith, less)))) (leb_tells from s)
    where
      by : (b : Bool) → is_nonzero (w s) ≡ b → (l : Bool) → live s ≡ l → lefts from (range_with_len (s + 1) m) ≡ []
          → ((leb from s ≡ true) × (from ≤ s)) ⊎ ((leb from s ≡ false) × (s < from)) → lefts from (range_with_len s (suc m)) ≡ []
      by false off l is rest one = rw off rest
      by true on false is rest one = rw (on, is) rest
      by true on true is rest (inl one) = absurd (quiet s (omega arith) (omega arith) one.1 on is)
      by true on true is rest (inr one) = rw (on, is, one.0) rest

  here : (x s m : ℕ) → s ≤ x → x < s + m → is_nonzero (w x) ≡ true → live x ≡ true
      → lefts x (range_with_len s m) ≡ (x, w x) ∷ lefts (x + 1) (range_with_len s m)
  here x s zero low less on is = absurd (omega (arith, low, less))
  here x s (suc m) low less on is = elim (cases_eq x s) [
    | inl same ↦ first same
    | inr apart ↦ (later (is_nonzero (w s)) refl (live s) refl (omega (arith, low, apart)) (here x (s + 1) m (omega (arith, low, apart)) (omega (arith, less)) on is))
  ]
    where
      first : x ≡ s → lefts x (range_with_len s (suc m)) ≡ (x, w x) ∷ lefts (x + 1) (range_with_len s (suc m))
      first same =
          let own : leb x s ≡ true = grind (arith, nat_tests, same) in
          let past : leb (x + 1) s ≡ false = grind (arith, nat_tests, same) in
          let on_s : is_nonzero (w s) ≡ true = subst (λ (n : ℕ). is_nonzero (w n) ≡ true) same on in
          let is_s : live s ≡ true = subst (λ (n : ℕ). live n ≡ true) same is in
          let pair : (s, w s) ≡ (x, w x) = ap (λ (n : ℕ). (n, w n)) (sym same) in
          let rest = skip x (x + 1) (s + 1) m (omega arith) (λ n high less begin below counts alive. omega (arith, high, same, below)) in
          rw (on_s, is_s, own, past) (ap (λ (p : ℕ × ℤ). p ∷ lefts x (range_with_len (s + 1) m)) pair ∙ ap (λ (xs : List (ℕ × ℤ)). (x, w x) ∷ xs) rest)

      later : (b : Bool) → is_nonzero (w s) ≡ b → (l : Bool) → live s ≡ l → s < x → lefts x (range_with_len (s + 1) m) ≡ (x, w x) ∷ lefts (x + 1) (range_with_len (s + 1) m)
          → lefts x (range_with_len s (suc m)) ≡ (x, w x) ∷ lefts (x + 1) (range_with_len s (suc m))
      later false off l alive before rest = rw off rest
      later true counts false alive before rest = rw (counts, alive) rest
      later true counts true alive before rest =
          let low_one : leb x s ≡ false = grind (arith, nat_tests, before) in
          let low_two : leb (x + 1) s ≡ false = grind (arith, nat_tests, before) in
          rw (counts, alive, low_one, low_two) rest

  pub lefts-skip : (from to size : ℕ) → from ≤ to → IsQuiet from to → lefts from (range_with_len 0 size) ≡ lefts to (range_with_len 0 size)
  lefts-skip from to size le quiet = skip from to 0 size le (λ n low within begin less. quiet n begin less)

  pub lefts-none : (from size : ℕ) → IsQuiet from size → lefts from (range_with_len 0 size) ≡ []
  lefts-none from size quiet = none from 0 size (λ n low within begin. quiet n begin (omega (arith, within)))

  pub lefts-here : (x size : ℕ) → x < size → is_nonzero (w x) ≡ true → live x ≡ true → lefts x (range_with_len 0 size) ≡ (x, w x) ∷ lefts (x + 1) (range_with_len 0 size)
  lefts-here x size less on is = here x 0 size (omega arith) (omega (arith, less)) on is
