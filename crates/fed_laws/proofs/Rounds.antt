-- Rounds over the numbers below a size, in each of which more numbers pass: what passes at last passes after as many
-- rounds as there are numbers.
use Rattle.std.proofs.Common.{◌≡◌, refl, sym, ◌∙◌, ap, subst, arith, ℕ, zero, suc, ◌+◌, ◌-◌, ◌<◌, ◌≤◌, Bool, true, false, true≢false, ◌⊎◌, inl, inr, ⊎_elim, add-zero, add-suc}
use Rattle.std.specs.Prelude.{if◌then◌else◌}
use Rattle.std.proofs.lemmas.Bool.{cases_lt, cases_eq}

-- how many numbers below n pass
abbrev pub passing : (ℕ → Bool) → ℕ → ℕ
passing p zero = 0
passing p (suc n) = (if p n then 1 else 0) + passing p n

one_or_none : (b : Bool) → (if b then 1 else 0) ≤ 1
one_or_none true = omega arith
one_or_none false = omega arith

at_most : (p : ℕ → Bool) (n : ℕ) → passing p n ≤ n
at_most p zero = omega arith
at_most p (suc n) = omega (arith, one_or_none (p n), at_most p n)

-- where as many pass as there are numbers, each does
all_pass : (p : ℕ → Bool) (n k : ℕ) → n ≤ passing p n → k < n → p k ≡ true
all_pass p zero k full less = absurd (omega arith)
all_pass p (suc n) k full less = by_last p n k full less (λ enough below. all_pass p n k enough below) (p n) refl
  where
    by_last : (p : ℕ → Bool) (n k : ℕ) → suc n ≤ passing p (suc n) → k < suc n → (n ≤ passing p n → k < n → p k ≡ true) → (b : Bool) → p n ≡ b → p k ≡ true
    by_last p n k full less before false none = let few : passing p (suc n) ≡ 0 + passing p n = ap (λ b. (if b then 1 else 0) + passing p n) none in absurd (omega (arith, few, full, at_most p n))
    by_last p n k full less before true last =
        let one : passing p (suc n) ≡ 1 + passing p n = ap (λ b. (if b then 1 else 0) + passing p n) last in
        ⊎_elim (λ same. ap p same ∙ last) (λ apart. before (omega (arith, one, full)) (omega (arith, apart, less))) (cases_eq k n)

-- where each that passes the one test passes the other, too
module _ (p q : ℕ → Bool) (more : (k : ℕ) → p k ≡ true → q k ≡ true) where
  step : (n : ℕ) → (if p n then 1 else 0) ≤ (if q n then 1 else 0)
  step n = by_first (p n) refl
    where
      by_first : (b : Bool) → p n ≡ b → (if p n then 1 else 0) ≤ (if q n then 1 else 0)
      by_first false none = rw none (omega arith)
      by_first true first = rw (first, more n first) (omega arith)

  grows : (n : ℕ) → passing p n ≤ passing q n
  grows zero = omega arith
  grows (suc n) = omega (arith, step n, grows n)

  -- and no more pass the other, each number passes both or neither
  same : (n k : ℕ) → passing q n ≤ passing p n → k < n → p k ≡ q k
  same zero k none less = absurd (omega arith)
  same (suc n) k none less = by_both n k none less (λ few below. same n k few below) (p n) (q n) refl refl
    where
      further : (n k : ℕ) → k < suc n → (k < n → p k ≡ q k) → p n ≡ q n → p k ≡ q k
      further n k less before last = ⊎_elim (λ here. ap p here ∙ last ∙ ap q (sym here)) (λ apart. before (omega (arith, apart, less))) (cases_eq k n)

      by_both : (n k : ℕ) → passing q (suc n) ≤ passing p (suc n) → k < suc n → (passing q n ≤ passing p n → k < n → p k ≡ q k)
          → (a b : Bool) → p n ≡ a → q n ≡ b → p k ≡ q k
      by_both n k none less before true true first second = further n k less (before (omega (arith, step n, none, grows n))) (first ∙ sym second)
      by_both n k none less before false false first second = further n k less (before (omega (arith, step n, none, grows n))) (first ∙ sym second)
      by_both n k none less before true false first second = absurd (true≢false (sym (more n first) ∙ second))
      by_both n k none less before false true first second =
          let fewer : passing p (suc n) ≡ 0 + passing p n = ap (λ b. (if b then 1 else 0) + passing p n) first in
          let one : passing q (suc n) ≡ 1 + passing q n = ap (λ b. (if b then 1 else 0) + passing q n) second in
          absurd (omega (arith, fewer, one, none, grows n))

-- rounds in which more and more numbers pass, where what passes next rests on which numbers below the size pass
module _ (size : ℕ) (r : ℕ → ℕ → Bool) (kept : (n c : ℕ) → r n c ≡ true → r (suc n) c ≡ true)
    (next : (m n : ℕ) → ((x : ℕ) → x < size → r m x ≡ r n x) → (c : ℕ) → c < size → r (suc m) c ≡ r (suc n) c) where
  later : (n j c : ℕ) → r n c ≡ true → r (n + j) c ≡ true
  later n zero c passes = subst (λ m. r m c ≡ true) (sym (add-zero n)) passes
  later n (suc j) c passes = subst (λ m. r m c ≡ true) (sym (add-suc n j)) (kept (n + j) c (later n j c passes))

  -- the round after this one changes nothing
  abbrev IsLast : ℕ → Type 0
  IsLast n = (x : ℕ) → x < size → r n x ≡ r (suc n) x

  last : (n j : ℕ) → IsLast n → (x : ℕ) → x < size → r n x ≡ r (n + j) x
  last n zero is x less = ap (λ m. r m x) (sym (add-zero n))
  last n (suc j) is x less = is x less ∙ next n (n + j) (last n j is) x less ∙ ap (λ m. r m x) (sym (add-suc n j))

  -- after n rounds n numbers pass, or a round before changed nothing
  filled : (n : ℕ) → (n ≤ passing (r n) size) ⊎ ((k : ℕ) × (k < n) × IsLast k)
  filled zero = inl (omega arith)
  filled (suc n) = ⊎_elim by_count (λ found. let less = found.1 in inr (found.0, omega (arith, less), found.2)) (filled n)
    where
      by_count : n ≤ passing (r n) size → (suc n ≤ passing (r (suc n)) size) ⊎ ((k : ℕ) × (k < suc n) × IsLast k)
      by_count full = ⊎_elim
          (λ more. inl (omega (arith, full, more)))
          (λ none. inr (n, omega arith, λ x less. same (r n) (r (suc n)) (kept n) size x none less))
          (cases_lt (passing (r n) size) (passing (r (suc n)) size))

  -- what passes at last passes after as many rounds as there are numbers
  pub settled : (n c : ℕ) → c < size → r n c ≡ true → r size c ≡ true
  settled n c less passes = ⊎_elim beyond within (cases_lt size n)
    where
      within : n ≤ size → r size c ≡ true
      within few = subst (λ m. r m c ≡ true) (omega (arith, few)) (later n (size - n) c passes)

      beyond : size < n → r size c ≡ true
      beyond many = ⊎_elim
          (λ full. all_pass (r size) size c full less)
          (λ found. let before = found.1 in
          let unchanged : r found.0 c ≡ r n c = last found.0 (n - found.0) found.2 c less ∙ ap (λ m. r m c) (omega (arith, before, many)) in
          subst (λ m. r m c ≡ true) (omega (arith, before)) (later found.0 (size - found.0) c (unchanged ∙ passes)))
          (filled size)
