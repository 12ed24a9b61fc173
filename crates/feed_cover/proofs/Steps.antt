-- Steps of loops over numbers and lists.
use Rattle.std.proofs.Common.{◌≡◌, refl, sym, ap, ◌∙◌, arith, subst, ℕ, zero, suc, ◌+◌, ◌<◌, ◌≤◌, Bool, true, false, ◌&&◌, ◌||◌, List, [], ◌∷◌, length, get_or, take, All}
use Rattle.std.specs.List.{list_all, list_any}
use Rattle.std.proofs.lemmas.Bool.{and_parts, and_from}
use Rattle.cover_laws.specs.Looking.{each_below, some_below}
use Rattle.cover_laws.proofs.Looks.{each-elim, each-intro, some-elim, some-intro}

pub each-next : (test : ℕ → Bool) (k j : ℕ) → each_below test k ≡ true → test k ≡ true → j ≡ k + 1 → each_below test j ≡ true
each-next test k j h t e = each-intro test j (λ i low. by i low)
  where
    by : (i : ℕ) → i < j → test i ≡ true
    by i low = elim (Rattle.std.proofs.lemmas.Bool.cases_lt i k) [
      | Rattle.std.proofs.Common.inl before ↦ each-elim test k h i before
      | Rattle.std.proofs.Common.inr after ↦ let same : k ≡ i = omega (arith, low, e, after) in subst (λ i. test i ≡ true) same t
    ]

pub each-done : (test : ℕ → Bool) (k n : ℕ) → each_below test k ≡ true → n ≤ k → true ≡ each_below test n
each-done test k n h low = sym (each-intro test n (λ i less. each-elim test k h i (omega (arith, low, less))))

pub each-fails : (test : ℕ → Bool) (k n : ℕ) → k < n → test k ≡ false → false ≡ each_below test n
each-fails test k n low h = by (each_below test n) refl
  where
    by : (t : Bool) → each_below test n ≡ t → false ≡ each_below test n
    by true e = absurd (let clash : true ≡ false = sym (each-elim test n e k low) ∙ h in cc)
    by false e = sym e

pub some-next : (test : ℕ → Bool) (k j : ℕ) → some_below test k ≡ false → test k ≡ false → j ≡ k + 1 → some_below test j ≡ false
some-next test k j h t e = by (some_below test j) refl
  where
    by : (b : Bool) → some_below test j ≡ b → some_below test j ≡ false
    by false is = is
    by true is =
        let (i, low, passes) = some-elim test j is in
        absurd (elim (Rattle.std.proofs.lemmas.Bool.cases_lt i k) [
          | Rattle.std.proofs.Common.inl before ↦ let clash : true ≡ false = sym (some-intro test k i before passes) ∙ h in cc
          | Rattle.std.proofs.Common.inr after ↦ let same : i ≡ k = omega (arith, low, e, after) in let clash : true ≡ false = sym passes ∙ ap test same ∙ t in cc
        ])

pub some-done : (test : ℕ → Bool) (k n : ℕ) → some_below test k ≡ false → n ≤ k → false ≡ some_below test n
some-done test k n h low = by (some_below test n) refl
  where
    by : (b : Bool) → some_below test n ≡ b → false ≡ some_below test n
    by false is = sym is
    by true is =
        let (i, less, passes) = some-elim test n is in
        absurd (let clash : true ≡ false = sym (some-intro test k i (omega (arith, low, less)) passes) ∙ h in cc)

pub some-found : (test : ℕ → Bool) (k n : ℕ) → k < n → test k ≡ true → true ≡ some_below test n
some-found test k n low h = sym (some-intro test n k low h)

-- a narrow element that doesn't pass
pub narrow-fails : (t u : Bool) → t ≡ true → u ≡ false → Rattle.std.specs.Prelude.not t || u ≡ false
narrow-fails true u h k = k
narrow-fails false u h k = absurd (cc)
