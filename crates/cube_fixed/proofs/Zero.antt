-- What 0 does in each operation, and what -k is.
use Rattle.std.proofs.Common.{◌≡◌, ◌≢◌, ◌∙◌, ap, refl, arith, lit≤, ℕ, zero, suc, ◌+◌, ◌*◌, ◌^◌, ◌<◌, nat_le, ℤ, pos, negsuc, neg_ℤ, ◌-ℤ◌, ◌*ℤ◌, unsigned_abs, Bool, true, false, if◌then◌else◌}
use Rattle.std.specs.Ordering.{int_eq}
use Rattle.std.proofs.lemmas.Bool.Decides.{nat_tests, Decides-int_eq}
use Rattle.std.proofs.lemmas.Int.{ints}
use Rattle.std.proofs.Math.Nat.{div-eq_of_lt, zero-div, one-le-pow}
use Rattle.cube_fixed.specs.declared.value.Value.{Value}
use Rattle.cube_fixed.specs.declared.value.Value.TheVariants.{Num, Over}
use Rattle.cube_fixed.specs.Range.{IsInRange, most_millionths, unit}
use Rattle.cube_fixed.specs.Rounding.{nearest, nearest_ratio}
use Rattle.cube_fixed.specs.Arithmetic.{zero_value, is_zero, fit, sum_of, difference_of, opposite_of, product_of, greater_of, lesser_of, rounded, floor_of, size_of, sign_of}
use Rattle.cube_fixed.specs.Division.{quotient_of, safe_quotient_of, floor_ratio, remainder_of}
use Rattle.cube_fixed.specs.Places.{truncated, whole_part, power_of, rounded_to}

-- ---- 0 times anything, and anything times 0

pub product_of-zero_left : (v : Value) → product_of zero_value v ≡ zero_value
unfolding product_of
product_of-zero_left (Num z) =
    let none : pos 0 *ℤ z ≡ pos 0 = omega (arith, ints) in
    ap (λ x. fit (nearest_ratio x (pos unit))) none
product_of-zero_left Over = refl

pub product_of-zero_right : (v : Value) → product_of v zero_value ≡ zero_value
unfolding product_of
product_of-zero_right (Num z) =
    let none : z *ℤ pos 0 ≡ pos 0 = omega (arith, ints) in
    ap (λ x. fit (nearest_ratio x (pos unit))) none
product_of-zero_right Over = refl

-- ---- quotients

nearest-zero : (d : ℕ) → 0 < d → nearest 0 d ≡ 0
nearest-zero d above = div-eq_of_lt {n = 2 * 0 + d} {m = 2 * d} (omega arith)

nearest_ratio-zero : (k : ℤ) → k ≢ pos 0 → nearest_ratio (pos 0) k ≡ pos 0
nearest_ratio-zero (pos zero) h = absurd (h refl)
nearest_ratio-zero (pos (suc n)) h = ap (λ x. pos x) (nearest-zero (suc n) (omega arith))
nearest_ratio-zero (negsuc n) h = ap (λ x. neg_ℤ (pos x)) (nearest-zero (suc n) (omega arith))

other_than_zero : (k : ℤ) → k ≢ pos 0 → int_eq k (pos 0) ≡ false
other_than_zero k h =
    let test = Decides-int_eq k (pos 0) in
    let go : (b : Bool) → int_eq k (pos 0) ≡ b → int_eq k (pos 0) ≡ false =
    λ b. elim b as (λ b. int_eq k (pos 0) ≡ b → int_eq k (pos 0) ≡ false) [ true ↦ λ e. absurd (h (test.0 e)) | false ↦ λ e. e ] in
    go (int_eq k (pos 0)) refl

-- 0 / k, for a number k other than 0
pub quotient_of-zero_left : (k : ℤ) → k ≢ pos 0 → quotient_of zero_value (Num k) ≡ zero_value
unfolding quotient_of
quotient_of-zero_left k h =
    let no : int_eq k (pos 0) ≡ false = other_than_zero k h in
    ap (λ b. if b then Over else fit (nearest_ratio (pos 0) k)) no ∙ ap fit (nearest_ratio-zero k h)

-- 0 \ v, and v \ 0
pub safe_quotient_of-zero_left : (v : Value) → safe_quotient_of zero_value v ≡ zero_value
unfolding safe_quotient_of
safe_quotient_of-zero_left v = refl

pub safe_quotient_of-zero_right : (v : Value) → safe_quotient_of v zero_value ≡ zero_value
unfolding safe_quotient_of
safe_quotient_of-zero_right v =
    elim (is_zero v) as (λ b. (if b then zero_value else zero_value) ≡ zero_value) [ true ↦ refl | false ↦ refl ]

-- ---- remainders

floor_ratio-zero : (k : ℤ) → floor_ratio (pos 0) k ≡ pos 0
floor_ratio-zero (pos n) = ap (λ x. pos x) (zero-div n)
floor_ratio-zero (negsuc n) = ap (λ x. pos x) (zero-div (suc n))

-- MOD(0, k), for a number k other than 0
pub remainder_of-zero_left : (k : ℤ) → k ≢ pos 0 → remainder_of zero_value (Num k) ≡ zero_value
unfolding remainder_of
remainder_of-zero_left k h =
    let no : int_eq k (pos 0) ≡ false = other_than_zero k h in
    let none : pos 0 -ℤ k *ℤ pos 0 ≡ pos 0 = omega (arith, ints) in
    ap (λ b. if b then Over else fit (pos 0 -ℤ k *ℤ floor_ratio (pos 0) k)) no ∙
    ap (λ q. fit (pos 0 -ℤ k *ℤ q)) (floor_ratio-zero k) ∙ ap fit none

-- ---- decimals

-- ROUNDP(0, n)
pub rounded_to-zero : (n : ℤ) → rounded_to zero_value (Num n) ≡ zero_value
unfolding rounded_to
rounded_to-zero n = of_step (10 ^ power_of (whole_part n)) (one-le-pow (power_of (whole_part n)) 10 (lit≤ tt))
  where
    of_step : (step : ℕ) → 0 < step → fit (nearest_ratio (pos 0) (pos step) *ℤ pos step) ≡ zero_value
    of_step step above =
        let none : pos 0 *ℤ pos step ≡ pos 0 = omega (arith, ints) in
        ap (λ x. fit (pos x *ℤ pos step)) (nearest-zero step above) ∙ ap fit none

pub truncated-zero : truncated zero_value ≡ zero_value
unfolding truncated
truncated-zero = refl

-- ---- operations of zeros alone

pub sum_of-zeros : sum_of zero_value zero_value ≡ zero_value
unfolding sum_of
sum_of-zeros = refl

pub difference_of-zeros : difference_of zero_value zero_value ≡ zero_value
unfolding difference_of
difference_of-zeros = refl

pub greater_of-zeros : greater_of zero_value zero_value ≡ zero_value
unfolding greater_of
greater_of-zeros = refl

pub lesser_of-zeros : lesser_of zero_value zero_value ≡ zero_value
unfolding lesser_of
lesser_of-zeros = refl

pub rounded-zero : rounded zero_value ≡ zero_value
unfolding rounded
rounded-zero = refl

pub floor_of-zero : floor_of zero_value ≡ zero_value
unfolding floor_of
floor_of-zero = refl

pub size_of-zero : size_of zero_value ≡ zero_value
unfolding size_of
size_of-zero = refl

pub sign_of-zero : sign_of zero_value ≡ zero_value
unfolding sign_of
sign_of-zero = refl

-- ---- -k

unsigned_abs-neg : (k : ℤ) → unsigned_abs (neg_ℤ k) ≡ unsigned_abs k
unsigned_abs-neg (pos zero) = refl
unsigned_abs-neg (pos (suc n)) = refl
unsigned_abs-neg (negsuc n) = refl

-- -k of a number in range is its opposite, and never Over
pub opposite_of-number : (k : ℤ) → IsInRange k → opposite_of (Num k) ≡ Num (neg_ℤ k)
unfolding difference_of
opposite_of-number k h =
    let same : pos 0 -ℤ k ≡ neg_ℤ k = omega (arith, ints) in
    let size : unsigned_abs (neg_ℤ k) ≡ unsigned_abs k = unsigned_abs-neg k in
    let yes : nat_le (unsigned_abs (neg_ℤ k)) most_millionths ≡ true = ap (λ n. nat_le n most_millionths) size ∙ grind (arith, nat_tests) in
    ap fit same ∙ ap (λ b. if b then Num (neg_ℤ k) else Over) yes
