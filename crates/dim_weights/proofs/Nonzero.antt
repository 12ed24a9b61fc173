-- Whole numbers other than 0, and the size of a sum.
use Rattle.std.proofs.Common.{◌≡◌, ℕ, zero, suc, ◌+◌, ◌<◌, ◌≤◌, true, false, ℤ, pos, negsuc, ◌+ℤ◌, ◌*ℤ◌, unsigned_abs, refl, sym, ap, ◌∙◌, subst, arith, mul-pos, List, [], ◌∷◌, Contains, if◌then◌else◌}
use Rattle.std.proofs.Math.IntN.{*ℤ-zero, zero-*ℤ}
use Rattle.std.proofs.lemmas.Bool.{cond_both}
use Rattle.std.proofs.lemmas.Int.{ints, unsigned_abs-mul}
use Rattle.std.proofs.lemmas.List.Elements.{Contains-append_right}
use Rattle.dim_weights.specs.Table.{is_nonzero, nonzero_among}

pub zero-is : (z : ℤ) → is_nonzero z ≡ false → z ≡ pos 0
zero-is (pos zero) none = refl
zero-is (pos (suc n)) none = absurd (cc)
zero-is (negsuc n) none = absurd (cc)

pub nonzero-counts : (z : ℤ) → is_nonzero z ≡ true → z ≡ pos 0 → ⊥
nonzero-counts z on none = let clash : is_nonzero (pos 0) ≡ true = ap is_nonzero (sym none) ∙ on in cc

pub counts-nonzero : (z : ℤ) → (z ≡ pos 0 → ⊥) → is_nonzero z ≡ true
counts-nonzero (pos zero) counts = absurd (counts refl)
counts-nonzero (pos (suc n)) counts = refl
counts-nonzero (negsuc n) counts = refl

-- products

has-size : (z : ℤ) → is_nonzero z ≡ true → 0 < unsigned_abs z
has-size (pos zero) h = absurd (cc)
has-size (pos (suc n)) h = omega arith
has-size (negsuc n) h = omega arith

from-size : (z : ℤ) → 0 < unsigned_abs z → is_nonzero z ≡ true
from-size (pos zero) h = absurd (omega (arith, h))
from-size (pos (suc n)) h = refl
from-size (negsuc n) h = refl

pub both-factors : (a b : ℤ) → is_nonzero a ≡ true → is_nonzero b ≡ true → is_nonzero (a *ℤ b) ≡ true
both-factors a b h k = from-size (a *ℤ b) (subst (λ n. 0 < n) (sym (unsigned_abs-mul a b)) (mul-pos (has-size a h) (has-size b k)))

pub first-factor : (a b : ℤ) → is_nonzero (a *ℤ b) ≡ true → is_nonzero a ≡ true
first-factor (pos zero) b h = ap is_nonzero (sym (zero-*ℤ b)) ∙ h
first-factor (pos (suc n)) b h = refl
first-factor (negsuc n) b h = refl

pub second-factor : (a b : ℤ) → is_nonzero (a *ℤ b) ≡ true → is_nonzero b ≡ true
second-factor a (pos zero) h = ap is_nonzero (sym (*ℤ-zero a)) ∙ h
second-factor a (pos (suc n)) h = refl
second-factor a (negsuc n) h = refl

-- a sum

pub abs-plus : (a b : ℤ) → unsigned_abs (a +ℤ b) ≤ unsigned_abs a + unsigned_abs b
abs-plus a b = omega (arith, ints)

-- a list of those that are not 0

pub among-in : (f : ℕ → ℤ) (ls : List ℕ) (l : ℕ) → Contains ls l → is_nonzero (f l) ≡ true → Contains (nonzero_among f ls) (l, f l)
among-in f [] l c h = absurd (let low = c.1 in omega (arith, low))
among-in f (x ∷ ls) l (zero, low, at) h =
    let same : x ≡ l = at in
    subst (λ (xs : List (ℕ × ℤ)). Contains xs (l, f l)) (ap (λ t. if t then (x, f x) ∷ nonzero_among f ls else nonzero_among f ls) (sym (ap (λ x. is_nonzero (f x)) same ∙ h)))
    (0, omega arith, ap (λ x. (x, f x)) same)
among-in f (x ∷ ls) l (suc k, low, at) h =
    let rest = among-in f ls l (k, omega (arith, low), at) h in
    cond_both (is_nonzero (f x)) ((x, f x) ∷ nonzero_among f ls) (nonzero_among f ls) (λ (xs : List (ℕ × ℤ)). Contains xs (l, f l))
    (λ on. Contains-append_right ((x, f x) ∷ []) (nonzero_among f ls) (l, f l) rest) (λ off. rest)
