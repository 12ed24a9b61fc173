-- Digits read one by one: the whole units up to a cap, and the decimals to the nearest millionth.
use Rattle.std.proofs.Common.{pow-add, ◌≡◌, ◌∙◌, sym, ap, refl, arith, lit<, lit≤, ℕ, zero, suc, ◌+◌, ◌-◌, ◌*◌, ◌/◌, ◌^◌, ◌<◌, ◌≤◌, min, Bool, true, false, List, length, take, get_or}
use Rattle.std.specs.Char.{is_ascii_digit, digit_value}
use Rattle.std.specs.List.{list_all}
use Rattle.std.specs.Str.Parse.{digits_value}
use Rattle.std.proofs.lemmas.Bool.Decides.{nat_tests}
use Rattle.std.proofs.lemmas.Int.Digits.{digits_value_more}
use Rattle.std.proofs.lemmas.List.Folds.{list_all_at}
use Rattle.std.proofs.Math.Nat.{div-div-eq-div-mul, div-eq_of_lt, add-mul-div_right, one-le-pow, mul-div-mul_left, mul-div-mul_right}
use Rattle.cube_fixed.specs.Rounding.{nearest}
use Rattle.cube_fixed.specs.Text.{decimals_value}

-- a byte of a text of digits is a digit
pub digit_from_test : (c : ℕ) → is_ascii_digit c ≡ true → (48 ≤ c) × (c ≤ 57)
digit_from_test c h = grind (arith, nat_tests)

pub digit_at : (ds : List ℕ) (i : ℕ) → list_all is_ascii_digit ds ≡ true → i < length ds → (48 ≤ get_or ds i 0) × (get_or ds i 0 ≤ 57)
digit_at ds i all below =
    let cases : (b : Bool) → is_ascii_digit (get_or ds i 0) ≡ b → (48 ≤ get_or ds i 0) × (get_or ds i 0 ≤ 57) =
    λ b. elim b as (λ b. is_ascii_digit (get_or ds i 0) ≡ b → (48 ≤ get_or ds i 0) × (get_or ds i 0 ≤ 57)) [
      | true ↦ λ e. digit_from_test _ e
      | false ↦ λ e. let no : list_all is_ascii_digit ds ≡ false = list_all_at is_ascii_digit ds i 0 below e in cc
    ] in
    cases (is_ascii_digit (get_or ds i 0)) refl

-- one digit more
digit_value-digit : (c : ℕ) → 48 ≤ c → c ≤ 57 → digit_value c ≡ c - 48
digit_value-digit c low high = grind (arith, nat_tests)

pub digits_value-step : (ds : List ℕ) (i : ℕ) → list_all is_ascii_digit ds ≡ true → i < length ds → digits_value 10 (take (i + 1) ds) ≡ digits_value 10 (take i ds) * 10 + (get_or ds i 0 - 48)
digits_value-step ds i all below =
    let d = digit_at ds i all below in
    digits_value_more 10 ds i below ∙ ap (λ v. digits_value 10 (take i ds) * 10 + v) (digit_value-digit _ d.0 d.1)

-- the step of a number that is kept up to a cap
pub capped_step : (v d cap : ℕ) → min (min v cap * 10 + d) cap ≡ min (v * 10 + d) cap
capped_step v d cap = omega arith

-- ---- tenths of a millionth: 10 ^ 7 of them are one unit

pub place_step : (i : ℕ) → 10000000 / 10 ^ (i + 1) ≡ 10000000 / 10 ^ i / 10
place_step i = ap (λ p. 10000000 / p) (pow-add 10 i 1) ∙ sym (div-div-eq-div-mul 10000000 (10 ^ i) 10)

-- past the seventh digit nothing is added
late_step : (v d q : ℕ) → d ≤ 9 → 0 < q → (v * 10 + d) * 10000000 / (q * 10000000 * 10) ≡ v * 10000000 / (q * 10000000)
late_step v d q small pos =
    let a : (v * 10 + d) * 10000000 / (q * 10000000 * 10) ≡ (v * 10 + d) / (10 * q) =
    ap (λ m. (v * 10 + d) * 10000000 / m) (omega arith) ∙ mul-div-mul_right (v * 10 + d) (10 * q) (lit< tt) in
    let b : (v * 10 + d) / (10 * q) ≡ (v * 10 + d) / 10 / q = sym (div-div-eq-div-mul (v * 10 + d) 10 q) in
    let e : (v * 10 + d) / 10 ≡ v = omega arith in
    a ∙ b ∙ ap (λ x. x / q) e ∙ sym (mul-div-mul_right v q (lit< tt))

late_place : (q : ℕ) → 0 < q → 10000000 / (q * 10000000) / 10 ≡ 0
late_place q pos =
    div-div-eq-div-mul 10000000 (q * 10000000) 10 ∙
    div-eq_of_lt {n = 10000000} {m = q * 10000000 * 10} (omega arith)

pub tenths_step : (v d i : ℕ) → d ≤ 9 → (v * 10 + d) * 10000000 / 10 ^ (i + 1) ≡ v * 10000000 / 10 ^ i + 10000000 / 10 ^ i / 10 * d
tenths_step v d zero small = omega arith
tenths_step v d (suc zero) small = omega arith
tenths_step v d (suc (suc zero)) small = omega arith
tenths_step v d (suc (suc (suc zero))) small = omega arith
tenths_step v d (suc (suc (suc (suc zero)))) small = omega arith
tenths_step v d (suc (suc (suc (suc (suc zero))))) small = omega arith
tenths_step v d (suc (suc (suc (suc (suc (suc zero)))))) small = omega arith
tenths_step v d (suc (suc (suc (suc (suc (suc (suc j))))))) small =
    let q = 10 ^ j in
    let i = suc (suc (suc (suc (suc (suc (suc j)))))) in
    let one : 1 ≤ q = one-le-pow j 10 (lit≤ tt) in
    let seven : i ≡ j + 7 = omega arith in
    let whole : 10 ^ i ≡ q * 10000000 = ap (λ k. 10 ^ k) seven ∙ pow-add 10 j 7 in
    let more : 10 ^ (i + 1) ≡ q * 10000000 * 10 = pow-add 10 i 1 ∙ ap (λ x. x * 10) whole in
    let left : (v * 10 + d) * 10000000 / 10 ^ (i + 1) ≡ v * 10000000 / (q * 10000000) =
    ap (λ m. (v * 10 + d) * 10000000 / m) more ∙ late_step v d q small one in
    let right : v * 10000000 / 10 ^ i ≡ v * 10000000 / (q * 10000000) = ap (λ m. v * 10000000 / m) whole in
    let none : 10000000 / 10 ^ i / 10 ≡ 0 = ap (λ m. 10000000 / m / 10) whole ∙ late_place q one in
    left ∙ sym right ∙ omega (arith, ap (λ x. x * d) none)

-- rounding a count of tenths is rounding the number that they are of
pub nearest_from_tenths : (a d : ℕ) → 0 < d → (a * 10 / d + 5) / 10 ≡ nearest a d
nearest_from_tenths a d pos =
    let more : (a * 10 + 5 * d) / d ≡ a * 10 / d + 5 = add-mul-div_right (a * 10) 5 pos in
    let five : 5 * (2 * a + d) / (5 * (2 * d)) ≡ (2 * a + d) / (2 * d) = mul-div-mul_left (2 * a + d) (2 * d) (lit< tt) in
    let whole : (a * 10 + 5 * d) / (d * 10) ≡ 5 * (2 * a + d) / (5 * (2 * d)) =
    let top : a * 10 + 5 * d ≡ 5 * (2 * a + d) = omega arith in
    let bottom : d * 10 ≡ 5 * (2 * d) = omega arith in
    ap (λ x. x / (d * 10)) top ∙ ap (λ y. 5 * (2 * a + d) / y) bottom in
    ap (λ x. x / 10) (sym more) ∙ div-div-eq-div-mul (a * 10 + 5 * d) d 10 ∙ whole ∙ five

pub decimals_value-from_tenths : (ds : List ℕ) (tenths : ℕ) → tenths ≡ digits_value 10 ds * 10000000 / 10 ^ length ds → (tenths + 5) / 10 ≡ decimals_value ds
decimals_value-from_tenths ds tenths e =
    let pos : 0 < 10 ^ length ds = one-le-pow (length ds) 10 (lit≤ tt) in
    let ten : digits_value 10 ds * 10000000 ≡ digits_value 10 ds * 1000000 * 10 = omega arith in
    ap (λ x. (x + 5) / 10) (e ∙ ap (λ x. x / 10 ^ length ds) ten) ∙
    nearest_from_tenths (digits_value 10 ds * 1000000) (10 ^ length ds) pos
