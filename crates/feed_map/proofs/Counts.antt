-- How many cells rising lists have.
use Rattle.std.proofs.Common.{◌≡◌, refl, subst, ℕ, suc, ◌+◌, ◌<◌, ◌≤◌, ◌⊎◌, inl, inr, List, [], ◌∷◌, length, arith}
use Rattle.std.specs.List.{Contains}
use Rattle.std.specs.List.Sorted.{IsStrictlyIncreasing}
use Rattle.std.proofs.lemmas.Bool.{cases_lt}
use Rattle.cell_store.proofs.Rising.{AllAbove, Rises, Rises-from_increasing}
use Rattle.feed_sources.proofs.Members.{none-there, at-front, behind, front-or-behind}

abbrev pub IsWithin : List ℕ → List ℕ → Type 0
IsWithin xs ys = (c : ℕ) → Contains xs c → Contains ys c

pub above-has : (n : ℕ) (xs : List ℕ) (c : ℕ) → AllAbove n xs → Contains xs c → n < c
above-has n [] c above has = absurd (none-there c has)
above-has n (x ∷ xs) c above has =
    elim (front-or-behind x xs c has) [
      | inl is ↦ subst (λ y. n < y) is above.0
      | inr more ↦ above-has n xs c above.1 more
    ]

-- what is in a list and above its first is behind that
pub past-first : (u : ℕ) (us : List ℕ) (c : ℕ) → u < c → Contains (u ∷ us) c → Contains us c
past-first u us c above has =
    elim (front-or-behind u us c has) [
      | inl is ↦ absurd (omega (arith, above, is))
      | inr more ↦ more
    ]

-- a list within another, without the first of that
record IsRest (u : ℕ) (us xs rest : List ℕ) : Type 0 where
  pub rises : Rises rest
  pub within : IsWithin rest us
  pub part : IsWithin rest xs
  pub counts : (length xs ≡ length rest) ⊎ (Contains xs u × (length xs ≡ suc (length rest)))

rest-of : (u : ℕ) (us xs : List ℕ) → Rises (u ∷ us) → Rises xs → IsWithin xs (u ∷ us) → (rest : List ℕ) × IsRest u us xs rest
rest-of u us [] up rises within =
    ([], record { rises = tt; within = λ c has. absurd (none-there c has); part = λ c has. has; counts = inl refl })
rest-of u us (x ∷ xs) up rises within =
    elim (cases_lt x u) [
      | inl low ↦ absurd (elim (front-or-behind u us x (within x (at-front x xs))) [
        | inl is ↦ omega (arith, is, low)
        | inr more ↦ (let over = above-has u us x up.0 more in omega (arith, over, low))
      ])
      | inr high ↦ elim (cases_lt u x) [
        | inl over ↦ (
          x ∷ xs,
          record {
            rises = rises;
            within = λ c has. past-first u us c (elim (front-or-behind x xs c has) [
              | inl is ↦ omega (arith, is, over)
              | inr more ↦ (let later = above-has x xs c rises.0 more in omega (arith, later, over))
            ]) (within c has);
            part = λ c has. has;
            counts = inl refl;
          },
        )
        | inr under ↦ (let same : x ≡ u = omega (arith, high, under) in (
          xs,
          record {
            rises = rises.1;
            within = λ c has. (let later = above-has x xs c rises.0 has in past-first u us c (omega (arith, later, same)) (within c (behind x xs c has)));
            part = λ c has. behind x xs c has;
            counts = inr (subst (Contains (x ∷ xs)) same (at-front x xs), refl);
          },
        ))
      ]
    ]

-- two lists without a common cell, both within a third
both-within : (us xs ys : List ℕ) → Rises us → Rises xs → Rises ys → IsWithin xs us → IsWithin ys us → ((c : ℕ) → Contains xs c → Contains ys c → ⊥)
    → length xs + length ys ≤ length us
both-within [] [] [] up rises also within inside apart = omega arith
both-within [] (x ∷ xs) ys up rises also within inside apart = absurd (none-there x (within x (at-front x xs)))
both-within [] [] (y ∷ ys) up rises also within inside apart = absurd (none-there y (inside y (at-front y ys)))
both-within (u ∷ us) xs ys up rises also within inside apart =
    let a = rest-of u us xs up rises within in
    let b = rest-of u us ys up also inside in
    let later = both-within us a.0 b.0 up.1 a.1.rises b.1.rises a.1.within b.1.within (λ c one other. apart c (a.1.part c one) (b.1.part c other)) in
    elim a.1.counts [
      | inl same ↦ elim b.1.counts [
        | inl alike ↦ omega (arith, same, alike, later)
        | inr more ↦ omega (arith, same, more.1, later)
      ]
      | inr more ↦ elim b.1.counts [
        | inl alike ↦ omega (arith, more.1, alike, later)
        | inr twice ↦ absurd (apart u more.0 twice.0)
      ]
    ]

pub apart-within : (us xs ys : List ℕ) → IsStrictlyIncreasing us → IsStrictlyIncreasing xs → IsStrictlyIncreasing ys → IsWithin xs us → IsWithin ys us
    → ((c : ℕ) → Contains xs c → Contains ys c → ⊥) → length xs + length ys ≤ length us
apart-within us xs ys up rises also =
    both-within us xs ys (Rises-from_increasing us up) (Rises-from_increasing xs rises) (Rises-from_increasing ys also)

pub within-counts : (us xs : List ℕ) → IsStrictlyIncreasing us → IsStrictlyIncreasing xs → IsWithin xs us → length xs ≤ length us
within-counts us xs up rises within =
    let counts = both-within us xs [] (Rises-from_increasing us up) (Rises-from_increasing xs rises) tt within (λ c has. absurd (none-there c has)) (λ c one none. none-there c none) in
    omega (arith, counts)
