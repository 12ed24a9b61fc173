-- What a partition point splits a list into.
use Rattle.std.proofs.Common.{◌≡◌, ℕ, zero, suc, ◌≤◌, Bool, true, false, not, List, [], ◌∷◌, length, take, drop, refl, ap, arith, filter}
use Rattle.std.specs.List.{AllWithin}

abbrev pub Passes : {X : Type 0} → (X → Bool) → List X → ℕ → Type 0
Passes p xs i = AllWithin (λ x. p x ≡ true) xs 0 i

abbrev pub Fails : {X : Type 0} → (X → Bool) → List X → ℕ → Type 0
Fails p xs i = AllWithin (λ x. p x ≡ false) xs i (length xs)

-- the part before the point is what passes
pub take_at_point : {X : Type 0} (p : X → Bool) (xs : List X) (i : ℕ) → i ≤ length xs → Passes p xs i → Fails p xs i → take i xs ≡ filter p xs
take_at_point p [] zero h passes fails = refl
take_at_point p [] (suc i) h passes fails = refl
take_at_point p (x ∷ xs) zero h passes fails =
    let here : p x ≡ false = fails 0 x (omega arith) (omega arith) in
    rw here (take_at_point p xs zero (omega arith) (λ k d low high. absurd (omega arith)) (λ k d low high. fails (suc k) d (omega arith) (omega arith)))
take_at_point p (x ∷ xs) (suc i) h passes fails =
    let here : p x ≡ true = passes 0 x (omega arith) (omega arith) in
    rw here (ap (λ ys. x ∷ ys) (take_at_point p xs i (omega arith) (λ k d low high. passes (suc k) d (omega arith) (omega arith)) (λ k d low high. fails (suc k) d (omega arith) (omega arith))))

-- the part from the point on is what fails
pub drop_at_point : {X : Type 0} (p q : X → Bool) → ((x : X) → q x ≡ not (p x)) → (xs : List X) (i : ℕ) → i ≤ length xs → Passes p xs i → Fails p xs i → drop i xs ≡ filter q xs
drop_at_point p q other [] zero h passes fails = refl
drop_at_point p q other [] (suc i) h passes fails = refl
drop_at_point p q other (x ∷ xs) zero h passes fails =
    let here : p x ≡ false = fails 0 x (omega arith) (omega arith) in
    rw (other x, here) (ap (λ ys. x ∷ ys) (drop_at_point p q other xs zero (omega arith) (λ k d low high. absurd (omega arith)) (λ k d low high. fails (suc k) d (omega arith) (omega arith))))
drop_at_point p q other (x ∷ xs) (suc i) h passes fails =
    let here : p x ≡ true = passes 0 x (omega arith) (omega arith) in
    rw (other x, here) (drop_at_point p q other xs i (omega arith) (λ k d low high. passes (suc k) d (omega arith) (omega arith)) (λ k d low high. fails (suc k) d (omega arith) (omega arith)))
