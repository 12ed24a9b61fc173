-- The greater of two numbers, as the code finds it.
use Rattle.std.proofs.Common.{◌≡◌, ℕ, max, Bool, true, false, cond, eqb, nat_lt, refl, arith}
use Rattle.std.specs.Ordering.{ord_max, nat_cmp, is_lt}
use Rattle.std.specs.declared.cmp.Ordering.TheVariants.{Less, Equal, Greater}
use Rattle.std.proofs.lemmas.Bool.Decides.{nat_tests}

pub ord_max-is : (a b : ℕ) → ord_max nat_cmp a b ≡ max a b
ord_max-is a b = by (nat_lt b a) (eqb b a) refl
  where
    by : (v w : Bool) → nat_lt b a ≡ v → cond (is_lt (cond v Less (cond w Equal Greater))) a b ≡ max a b
    by true w e = grind (arith, nat_tests)
    by false true e = grind (arith, nat_tests)
    by false false e = grind (arith, nat_tests)
