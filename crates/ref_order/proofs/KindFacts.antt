-- Numbers by kinds.
use Rattle.std.proofs.Common.{◌≡◌, refl, ap, ◌∙◌, arith, ℕ, zero, suc, ◌+◌, ◌-◌, ◌≤◌, Bool, true, false, ℤ, Option, Some, pos}
use Rattle.order_laws.specs.Greatest.{larger, greatest, only}
use Rattle.order_laws.specs.Earlier.{Kinds, both, of_leaf, of_total, are_same, greatest_ending}
use Rattle.ref_order.specs.declared.kinds.Numbers.{Numbers}
use Rattle.ref_order.specs.declared.kinds.ByKinds.{ByKinds}
use Rattle.ref_order.specs.Kinds.{number_for, number_of, AreNumbers, AreByKinds, AreWithin, AreAllWithin, sum_before}
use Rattle.ref_order.proofs.Args.{size-weaker}

pub number-is : (numbers : Numbers) (f : Bool → Option ℤ) → AreNumbers numbers f → (leaf : Bool) → number_for numbers leaf ≡ f leaf
number-is numbers f are true = are.leaf
number-is numbers f are false = are.total

pub kinds-is : (numbers : ByKinds) (f : Kinds → Option ℤ) → AreByKinds numbers f → (here : Kinds) → number_of numbers here ≡ f here
kinds-is numbers f are here = by here.own here.its
  where
    by : (own its : Bool) → number_of numbers (record { own = own; its = its }) ≡ f (record { own = own; its = its })
    by true true = are.leaf.leaf
    by true false = are.leaf.total
    by false true = are.total.leaf
    by false false = are.total.total

-- equal numbers
pub numbers-same : (numbers : Numbers) (f g : Bool → Option ℤ) → AreNumbers numbers f → ((leaf : Bool) → f leaf ≡ g leaf) → AreNumbers numbers g
numbers-same numbers f g are same = record { leaf = are.leaf ∙ same true; total = are.total ∙ same false }

pub kinds-same : (numbers : ByKinds) (f g : Kinds → Option ℤ) → AreByKinds numbers f → ((here : Kinds) → f here ≡ g here) → AreByKinds numbers g
kinds-same numbers f g are same = record {
  leaf = record { leaf = are.leaf.leaf ∙ same (of_leaf true); total = are.leaf.total ∙ same (of_leaf false) };
  total = record { leaf = are.total.leaf ∙ same (of_total true); total = are.total.total ∙ same (of_total false) };
}

-- one number more
pub numbers-more : (one best all : Numbers) (number : Bool → ℕ → Option ℤ) (k : ℕ) → AreNumbers one (λ leaf. number leaf k) → AreNumbers best (λ leaf. greatest (number leaf) k)
    → AreNumbers all (λ leaf. larger (number_for one leaf) (number_for best leaf)) → AreNumbers all (λ leaf. greatest (number leaf) (k + 1))
numbers-more one best all number k here before are =
    let next : suc k ≡ k + 1 = omega arith in
    numbers-same all (λ leaf. larger (number_for one leaf) (number_for best leaf)) (λ leaf. greatest (number leaf) (k + 1)) are
    (λ leaf. ap (λ x. larger x (number_for best leaf)) (number-is one (λ leaf. number leaf k) here leaf) ∙ ap (larger (number leaf k)) (number-is best (λ leaf. greatest (number leaf) k) before leaf) ∙ ap (greatest (number leaf)) next)

pub kinds-more : (best all : ByKinds) (number : Kinds → ℕ → Option ℤ) (one : Kinds → Option ℤ) (k : ℕ) → ((here : Kinds) → one here ≡ number here k) → AreByKinds best (λ here. greatest (number here) k)
    → AreByKinds all (λ here. larger (one here) (number_of best here)) → AreByKinds all (λ here. greatest (number here) (k + 1))
kinds-more best all number one k same before are =
    let next : suc k ≡ k + 1 = omega arith in
    kinds-same all (λ here. larger (one here) (number_of best here)) (λ here. greatest (number here) (k + 1)) are
    (λ here. ap (λ x. larger x (number_of best here)) (same here) ∙ ap (larger (number here k)) (kinds-is best (λ here. greatest (number here) k) before here) ∙ ap (greatest (number here)) next)

-- bounds
pub within-weaker : (numbers : Numbers) (x y : ℕ) → AreWithin numbers x → x ≤ y → AreWithin numbers y
within-weaker numbers x y small low = record { leaf = size-weaker numbers.leaf x y small.leaf low; total = size-weaker numbers.total x y small.total low }

pub all-weaker : (numbers : ByKinds) (x y : ℕ) → AreAllWithin numbers x → x ≤ y → AreAllWithin numbers y
all-weaker numbers x y small low = record { leaf = within-weaker numbers.leaf x y small.leaf low; total = within-weaker numbers.total x y small.total low }

sums-same : (f g u v : Kinds → Option ℤ) → ((k : Kinds) → f k ≡ u k) → ((k : Kinds) → g k ≡ v k) → (before : Kinds) → sum_before f g before ≡ sum_before u v before
sums-same f g u v a b before =
    cc (a (of_leaf true), a (of_leaf false), a (of_total true), a (of_total false), b (both before (of_leaf true)), b (both before (of_leaf false)), b (both before (of_total true)), b (both before (of_total false)))

-- over no dimension, and with one more
pub ending-none : (most : ℕ → Kinds → Option ℤ) (wanted : Kinds) (dim n : ℕ) (none : ByKinds) → n ≡ 0 → AreByKinds none (λ before. only (are_same wanted before) (Some (pos 0))) → AreByKinds none (λ before. greatest_ending most wanted before dim n)
ending-none most wanted dim zero none e are = are
ending-none most wanted dim (suc n) none e are = absurd (omega arith)

pub ending-more : (most : ℕ → Kinds → Option ℤ) (wanted : Kinds) (dim n : ℕ) (here rest all : ByKinds) → (n ≡ 0 → ⊥) → AreByKinds here (most dim) → AreByKinds rest (λ before. greatest_ending most wanted before (dim + 1) (n - 1))
    → AreByKinds all (sum_before (number_of here) (number_of rest)) → AreByKinds all (λ before. greatest_ending most wanted before dim n)
ending-more most wanted dim zero here rest all e h r a = absurd (e refl)
ending-more most wanted dim (suc n) here rest all e h r a =
    let next : dim + 1 ≡ suc dim = omega arith in
    let back : suc n - 1 ≡ n = omega arith in
    let behind : (k : Kinds) → number_of rest k ≡ greatest_ending most wanted k (suc dim) n = λ k. kinds-is rest (λ before. greatest_ending most wanted before (dim + 1) (suc n - 1)) r k ∙ ap (λ d. greatest_ending most wanted k d (suc n - 1)) next ∙ ap (greatest_ending most wanted k (suc dim)) back in
    kinds-same all (sum_before (number_of here) (number_of rest)) (λ before. greatest_ending most wanted before dim (suc n)) a
    (sums-same (number_of here) (number_of rest) (most dim) (λ k. greatest_ending most wanted k (suc dim) n) (kinds-is here (most dim) h) behind)
