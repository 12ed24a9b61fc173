-- Runs of bytes that pass a test, as long as can be.
use Rattle.std.proofs.Common.{◌≡◌, ℕ, ◌+◌, ◌≤◌, Bool, true, false, cond, List, [], ◌∷◌, ◌++◌, length, take, drop, refl, sym, ap, ◌∙◌, one-add, arith}
use Rattle.std.proofs.lemmas.List.Sums.{prefix_len-le-length}
use Rattle.std.specs.List.{list_all, prefix_len}
use Rattle.cube_lex.specs.Bytes.{Begins}
pub use Rattle.std.proofs.lemmas.Bool.{and_parts as both, false_from_ne_true as false-of}

-- the front that prefix_len finds is there
pub prefix_within : (p : ℕ → Bool) (xs : List ℕ) → prefix_len p xs ≤ length xs
prefix_within p xs = prefix_len-le-length p xs

-- and passes
pub prefix-passes : (p : ℕ → Bool) (xs : List ℕ) → list_all p (take (prefix_len p xs) xs) ≡ true
prefix-passes p [] = refl
prefix-passes p (x ∷ xs) =
    elim (p x) as (λ b. p x ≡ b → list_all p (take (cond b (1 + prefix_len p xs) 0) (x ∷ xs)) ≡ true) [
      | true ↦ λ e. rw one-add (rw e (prefix-passes p xs))
      | false ↦ λ e. refl
    ] refl

-- what comes behind it doesn't
pub prefix-ends : (p : ℕ → Bool) (xs : List ℕ) → Begins p (drop (prefix_len p xs) xs) → ⊥
prefix-ends p [] = λ h. h
prefix-ends p (x ∷ xs) =
    elim (p x) as (λ b. p x ≡ b → Begins p (drop (cond b (1 + prefix_len p xs) 0) (x ∷ xs)) → ⊥) [
      | true ↦ λ e. rw one-add (prefix-ends p xs)
      | false ↦ λ e h. cc (e, h)
    ] refl

-- no run of the same text is longer than one that nothing goes on with
pub run-longest : (p : ℕ → Bool) (longer more bytes rest : List ℕ) → list_all p longer ≡ true → (Begins p rest → ⊥) → longer ++ more ≡ bytes ++ rest → length longer ≤ length bytes
run-longest p [] more bytes rest passes ends e = omega arith
run-longest p (x ∷ xs) more [] [] passes ends e = absurd (cc)
run-longest p (x ∷ xs) more [] (y ∷ ys) passes ends e =
    let same : x ≡ y = cc in
    absurd (ends (ap p (sym same) ∙ (both _ _ passes).0))
run-longest p (x ∷ xs) more (y ∷ ys) rest passes ends e =
    let tails : xs ++ more ≡ ys ++ rest = cc in
    omega (arith, run-longest p xs more ys rest (both _ _ passes).1 ends tails)

-- two runs of the same text that nothing goes on with are one
pub run-only : (p : ℕ → Bool) (xs ys more rest : List ℕ) → list_all p xs ≡ true → list_all p ys ≡ true → (Begins p more → ⊥) → (Begins p rest → ⊥)
    → xs ++ more ≡ ys ++ rest → (xs ≡ ys) × (more ≡ rest)
run-only p [] [] more rest xs-pass ys-pass xs-ends ys-ends e = (refl, e)
run-only p [] (y ∷ ys) more rest xs-pass ys-pass xs-ends ys-ends e = absurd (xs-ends (rw e (both _ _ ys-pass).0))
run-only p (x ∷ xs) [] more rest xs-pass ys-pass xs-ends ys-ends e = absurd (ys-ends (rw (sym e) (both _ _ xs-pass).0))
run-only p (x ∷ xs) (y ∷ ys) more rest xs-pass ys-pass xs-ends ys-ends e =
    let tails : xs ++ more ≡ ys ++ rest = cc in
    let below : (xs ≡ ys) × (more ≡ rest) = run-only p xs ys more rest (both _ _ xs-pass).1 (both _ _ ys-pass).1 xs-ends ys-ends tails in
    let same : x ≡ y = cc in
    (cc (below.0), below.1)

-- a run of two runs
pub list_all-append : (p : ℕ → Bool) (xs ys : List ℕ) → list_all p xs ≡ true → list_all p ys ≡ true → list_all p (xs ++ ys) ≡ true
list_all-append p [] ys here there = there
list_all-append p (x ∷ xs) ys here there =
    let first : p x ≡ true = (both (p x) (list_all p xs) here).0 in
    rw first (list_all-append p xs ys (both (p x) (list_all p xs) here).1 there)

-- what passes one test passes a weaker one
pub weaker : (p q : ℕ → Bool) → ((b : ℕ) → p b ≡ true → q b ≡ true) → (xs : List ℕ) → list_all p xs ≡ true → list_all q xs ≡ true
weaker p q implies [] all = refl
weaker p q implies (x ∷ xs) all =
    let here : q x ≡ true = implies x (both (p x) (list_all p xs) all).0 in
    rw here (weaker p q implies xs (both (p x) (list_all p xs) all).1)
