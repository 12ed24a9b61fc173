-- Numbers by the kinds of an element and of what is named from it, as the code has them.
use Rattle.std.specs.Prelude.{◌≡◌, ℕ, ◌≤◌, Bool, true, false, if◌then◌else◌, ℤ, unsigned_abs, Option, IfSome}
use Rattle.order_laws.specs.Greatest.{plus, larger}
use Rattle.order_laws.specs.Earlier.{Kinds, both, of_leaf, of_total}
use Rattle.ref_order.specs.declared.kinds.Numbers.{Numbers}
use Rattle.ref_order.specs.declared.kinds.ByKinds.{ByKinds}

-- the number where all that is named is a leaf (`true`), or isn't
abbrev pub number_for : Numbers → Bool → Option ℤ
number_for numbers leaf = if leaf then numbers.leaf else numbers.total

-- the number of these kinds
abbrev pub number_of : ByKinds → Kinds → Option ℤ
number_of numbers here = number_for (if here.own then numbers.leaf else numbers.total) here.its

-- these are the numbers of both kinds
pub record AreNumbers (numbers : Numbers) (number : Bool → Option ℤ) : Type 0 where
  pub leaf : numbers.leaf ≡ number true
  pub total : numbers.total ≡ number false

-- and those of all four
pub record AreByKinds (numbers : ByKinds) (number : Kinds → Option ℤ) : Type 0 where
  pub leaf : AreNumbers numbers.leaf (λ its. number (of_leaf its))
  pub total : AreNumbers numbers.total (λ its. number (of_total its))

-- none of them is farther from 0
pub record AreWithin (numbers : Numbers) (most : ℕ) : Type 0 where
  pub leaf : IfSome numbers.leaf (λ n. unsigned_abs n ≤ most)
  pub total : IfSome numbers.total (λ n. unsigned_abs n ≤ most)

pub record AreAllWithin (numbers : ByKinds) (most : ℕ) : Type 0 where
  pub leaf : AreWithin numbers.leaf most
  pub total : AreWithin numbers.total most

-- the greatest sum with one dimension more, by its numbers and by the greatest sums over those behind it
abbrev pub sum_before : (Kinds → Option ℤ) → (Kinds → Option ℤ) → Kinds → Option ℤ
sum_before here rest before =
    larger
    (larger (plus (here (of_leaf true)) (rest (both before (of_leaf true))))
    (plus (here (of_leaf false)) (rest (both before (of_leaf false)))))
    (larger (plus (here (of_total true)) (rest (both before (of_total true))))
    (plus (here (of_total false)) (rest (both before (of_total false)))))
