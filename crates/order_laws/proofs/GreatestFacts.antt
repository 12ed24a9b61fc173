-- The greatest of numbers, and of sums of two, bounds just what each of them is at most.
use Rattle.std.proofs.Common.{◌≡◌, refl, arith, subst, ℕ, zero, suc, ◌<◌, ℤ, ◌+ℤ◌, ◌-ℤ◌, ◌≤ℤ◌, Option, Some, None, inl, inr}
use Rattle.std.proofs.lemmas.Int.{ints, clamps}
use Rattle.std.proofs.lemmas.Bool.{cases_lt}
use Rattle.order_laws.specs.Greatest.{plus, larger, IsAtMost, greatest}

pub larger-parts : (a b : Option ℤ) (z : ℤ) → IsAtMost (larger a b) z → IsAtMost a z × IsAtMost b z
larger-parts None b z h = (tt, h)
larger-parts (Some a) None z h = (h, tt)
larger-parts (Some a) (Some b) z h = (omega (arith, ints, clamps), omega (arith, ints, clamps))

pub larger-from : (a b : Option ℤ) (z : ℤ) → IsAtMost a z → IsAtMost b z → IsAtMost (larger a b) z
larger-from None b z h i = i
larger-from (Some a) None z h i = h
larger-from (Some a) (Some b) z h i = omega (arith, ints, clamps)

-- a number bounds just what each number of a family is at most
pub record IsTop {X : Type 0} (Q : X → Type 0) (number : X → Option ℤ) (top : Option ℤ) : Type 0 where
  pub over : (z : ℤ) → IsAtMost top z → (x : X) → Q x → IsAtMost (number x) z
  pub least : (z : ℤ) → ((x : X) → Q x → IsAtMost (number x) z) → IsAtMost top z

-- a bound of a sum is one of a part, less the other
move : (a b z : ℤ) → (a +ℤ b) ≤ℤ z → a ≤ℤ (z -ℤ b)
move a b z h = omega (arith, ints)

back : (a b z : ℤ) → a ≤ℤ (z -ℤ b) → (a +ℤ b) ≤ℤ z
back a b z h = omega (arith, ints)

turn : (a b z : ℤ) → a ≤ℤ (z -ℤ b) → b ≤ℤ (z -ℤ a)
turn a b z h = omega (arith, ints)

least-by : (a b : Option ℤ) (z : ℤ) → IsAtMost (plus a b) z → (y : ℤ) → b ≡ Some y → IsAtMost a (z -ℤ y)
least-by None b z h y e = tt
least-by (Some a) None z h y e = absurd (cc)
least-by (Some a) (Some b) z h y e = let same : b ≡ y = cc in subst (λ n. a ≤ℤ (z -ℤ n)) same (move a b z h)

by-other : (a b : Option ℤ) (z : ℤ) → ((y : ℤ) → b ≡ Some y → IsAtMost a (z -ℤ y)) → IsAtMost (plus a b) z
by-other None b z h = tt
by-other (Some a) None z h = tt
by-other (Some a) (Some b) z h = back a b z (h b refl)

by-first : (a b : Option ℤ) (z : ℤ) → ((x : ℤ) → a ≡ Some x → IsAtMost b (z -ℤ x)) → IsAtMost (plus a b) z
by-first None b z h = tt
by-first (Some a) None z h = tt
by-first (Some a) (Some b) z h = back a b z (turn b a z (h a refl))

first-by : (a b : Option ℤ) (z : ℤ) → IsAtMost (plus a b) z → (x : ℤ) → a ≡ Some x → IsAtMost b (z -ℤ x)
first-by None b z h x e = absurd (cc)
first-by (Some a) None z h x e = tt
first-by (Some a) (Some b) z h x e = let same : a ≡ x = cc in subst (λ n. b ≤ℤ (z -ℤ n)) same (turn a b z (move a b z h))

module _ {X Y : Type 0} (P : X → Type 0) (Q : Y → Type 0) (f : X → Option ℤ) (g : Y → Option ℤ) (a b : Option ℤ) (top_f : IsTop P f a) (top_g : IsTop Q g b) where
  pub plus-least : (z : ℤ) → ((x : X) (y : Y) → P x → Q y → IsAtMost (plus (f x) (g y)) z) → IsAtMost (plus a b) z
  plus-least z h = by-first a b z (λ m is. top_g.least (z -ℤ m) (λ y ok. bounded y ok m is))
    where
      bounded : (y : Y) → Q y → (m : ℤ) → a ≡ Some m → IsAtMost (g y) (z -ℤ m)
      bounded y ok m is = first-by a (g y) z (by-other a (g y) z (λ n e. top_f.least (z -ℤ n) (λ x fine. least-by (f x) (g y) z (h x y fine ok) n e))) m is

  pub plus-over : (z : ℤ) → IsAtMost (plus a b) z → (x : X) (y : Y) → P x → Q y → IsAtMost (plus (f x) (g y)) z
  plus-over z h x y p q = by-first (f x) (g y) z (λ m is. top_g.over (z -ℤ m) (least-over m is) y q)
    where
      least-over : (m : ℤ) → f x ≡ Some m → IsAtMost b (z -ℤ m)
      least-over m is = first-by (f x) b z (by-other (f x) b z (λ n e. top_f.over (z -ℤ n) (least-by a b z h n e) x p)) m is

-- the greatest of the first places
pub greatest-top : (number : ℕ → Option ℤ) (count : ℕ) → IsTop (λ k. k < count) number (greatest number count)
greatest-top number zero = record { over = λ z h k low. absurd (omega arith); least = λ z h. tt }
greatest-top number (suc count) = record {
  over = λ z h k low. elim (cases_lt k count) [
    | inl below ↦ (greatest-top number count).over z (larger-parts (number count) (greatest number count) z h).1 k below
    | inr above ↦ let same : count ≡ k = omega arith in subst (λ n. IsAtMost (number n) z) same (larger-parts (number count) (greatest number count) z h).0
  ];
  least = λ z h. larger-from (number count) (greatest number count) z (h count (omega arith)) ((greatest-top number count).least z (λ k low. h k (omega arith)));
}
