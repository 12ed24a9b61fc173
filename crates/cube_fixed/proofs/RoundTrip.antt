-- What is printed for a number reads back as that number.
use Rattle.std.proofs.Common.{◌≡◌, ◌∙◌, sym, ap, refl, arith, lit≤, ℕ, zero, suc, ◌+◌, ◌-◌, ◌*◌, ◌/◌, ◌%◌, ◌^◌, ◌<◌, ◌≤◌, ℤ, pos, negsuc, unsigned_abs, true, false, not, ◌&&◌, ◌||◌, ◌==◌, nat_le, if◌then◌else◌, ltb, List, [], ◌∷◌, ◌++◌, length, take, drop, Some, Result, Ok, Err, decimal, codes, append-nil, append_assoc, length-append, pow-add, subst}
use Rattle.std.specs.Char.{is_ascii_digit, digit_value}
use Rattle.std.specs.Int.{is_negative}
use Rattle.std.specs.List.{list_all, list_any, position_or_len}
use Rattle.std.specs.Str.Parse.{AllDigits, digits_value, digits_value_after, starts_with_minus}
use Rattle.std.proofs.lemmas.Bool.Decides.{nat_tests}
use Rattle.std.proofs.lemmas.Fmt.{decimal_is_IsNumeral}
use Rattle.std.proofs.lemmas.Nat.{div-mul-add, div-add-mod', div_below}
use Rattle.std.proofs.lemmas.Str.Parse.{digit_from_value}
use Rattle.std.proofs.Math.Nat.{one-le-pow, pow-suc}
use Rattle.std.proofs.lemmas.List.{drop_at}
use Rattle.std.proofs.Math.Seq.{take-append_seam}
use Rattle.cube_fixed.specs.declared.value.Value.TheVariants.{Num}
use Rattle.cube_fixed.specs.declared.reading.NumberFault.{NumberFault}
use Rattle.cube_fixed.specs.declared.reading.NumberFault.TheVariants.{TooLarge}
use Rattle.cube_fixed.specs.Range.{IsInRange, most_millionths, unit}
use Rattle.cube_fixed.specs.Rounding.{nearest}
use Rattle.cube_fixed.specs.Text.{is_decimal_sign, is_digits, is_decimal, decimals_value, decimal_value, signed, number_after_sign, number_with, number_of, reading_of, fraction_text, printed}
use Rattle.cube_fixed.proofs.Digits.{Starts, starts, decimals, decimals-zero, decimals-step, below_place, fraction_text-pos}
use Rattle.cube_fixed.proofs.Points.{HasPointAt, any-position, is_decimal-point, decimal_value-point, is_decimal-none, decimal_value-none, number_after_sign-decimal}
use Rattle.std.proofs.lemmas.Bool.{and_parts as both_true}

-- ---- texts of digits

digit_test : (c : ℕ) → 48 ≤ c → c ≤ 57 → is_ascii_digit c ≡ true
digit_test c low high = grind (arith, nat_tests)

list_all-from_digits : (ds : List ℕ) → AllDigits 10 ds → list_all is_ascii_digit ds ≡ true
list_all-from_digits [] h = refl
list_all-from_digits (c ∷ cs) h =
    let range = digit_from_value c h.0 in
    let first : is_ascii_digit c ≡ true = grind (arith, nat_tests) in
    ap (λ b. b && list_all is_ascii_digit cs) first ∙ list_all-from_digits cs h.1

is_digits-from_starts : (ds : List ℕ) → Starts ds → list_all is_ascii_digit ds ≡ true → is_digits ds ≡ true
is_digits-from_starts [] h all = cc
is_digits-from_starts (c ∷ cs) h all =
    let some : (length (c ∷ cs) == 0) ≡ false = grind (arith, nat_tests) in
    ap (λ b. not b && list_all is_ascii_digit (c ∷ cs)) some ∙ all

starts_from_length : (ds : List ℕ) → 0 < length ds → Starts ds
starts_from_length [] h = absurd (omega arith)
starts_from_length (c ∷ cs) h = (c, cs, refl)

not_point : (c : ℕ) → is_ascii_digit c ≡ true → is_decimal_sign 46 c ≡ false
not_point c h = grind (arith, nat_tests)

pub not_minus : (c : ℕ) → is_ascii_digit c ≡ true → (c == 45) ≡ false
not_minus c h = grind (arith, nat_tests)

-- the first point after digits
position-digits : (ds ys : List ℕ) → list_all is_ascii_digit ds ≡ true → position_or_len (is_decimal_sign 46) (ds ++ ys) ≡ length ds + position_or_len (is_decimal_sign 46) ys
position-digits [] ys h = omega arith
position-digits (c ∷ cs) ys h =
    let parts = both_true (is_ascii_digit c) (list_all is_ascii_digit cs) h in
    let later = position-digits cs ys parts.1 in
    ap (λ b. if not b then 1 + position_or_len (is_decimal_sign 46) (cs ++ ys) else 0) (not_point c parts.0) ∙ omega (arith, later)

-- digits have no point
no_point-digits : (ds : List ℕ) → list_all is_ascii_digit ds ≡ true → list_any (is_decimal_sign 46) ds ≡ false
no_point-digits [] h = refl
no_point-digits (c ∷ cs) h =
    let parts = both_true (is_ascii_digit c) (list_all is_ascii_digit cs) h in
    ap (λ b. b || list_any (is_decimal_sign 46) cs) (not_point c parts.0) ∙ no_point-digits cs parts.1

-- ---- the decimals

below_ten : (k n : ℕ) → n < 10 ^ suc k → n / 10 ^ k < 10
below_ten k n below =
    let one : 0 < 10 ^ k = one-le-pow k 10 (lit≤ tt) in
    div_below n (10 ^ k) 10 one (omega (arith, pow-suc 10 k))

decimals_all : (k n : ℕ) → n < 10 ^ k → list_all is_ascii_digit (decimals k n) ≡ true
decimals_all k zero below = ap (λ xs. list_all is_ascii_digit xs) (decimals-zero k)
decimals_all zero (suc n) below = absurd (omega arith)
decimals_all (suc k) (suc n) below =
    let q = suc n / 10 ^ k in
    let r = suc n % 10 ^ k in
    let small : q < 10 = below_ten k (suc n) below in
    let first : is_ascii_digit (48 + q) ≡ true = digit_test (48 + q) (omega arith) (omega arith) in
    ap (λ xs. list_all is_ascii_digit xs) (decimals-step k (suc n) (omega arith)) ∙
    ap (λ b. b && list_all is_ascii_digit (decimals k r)) first ∙
    decimals_all k r (below_place k (suc n))

digit_value-written : (q : ℕ) → q < 10 → digit_value (48 + q) ≡ q
digit_value-written q small = grind (arith, nat_tests)

-- k digits without their last zeros, read after a, and the places that are left out
record Scaled (k n a : ℕ) : Type 0 where
  places : length (decimals k n) ≤ k
  value : digits_value_after 10 a (decimals k n) * 10 ^ (k - length (decimals k n)) ≡ a * 10 ^ k + n

scaled : (k n a : ℕ) → n < 10 ^ k → Scaled k n a
scaled k zero a below =
    let none = decimals-zero k in
    let whole : k - 0 ≡ k = omega arith in
    record {
      places = omega (arith, ap (λ xs. length xs) none);
      value = ap (λ xs. digits_value_after 10 a xs * 10 ^ (k - length xs)) none ∙ ap (λ m. a * 10 ^ m) whole ∙ omega arith;
    }
scaled zero (suc n) a below = absurd (omega arith)
scaled (suc k) (suc n) a below =
    let m = suc n in
    let q = m / 10 ^ k in
    let r = m % 10 ^ k in
    let ds = decimals k r in
    let step = decimals-step k m (omega arith) in
    let later = scaled k r (a * 10 + q) (below_place k m) in
    let digit = digit_value-written q (below_ten k m below) in
    let left : suc k - length ((48 + q) ∷ ds) ≡ k - length ds = omega arith in
    let parts : q * 10 ^ k + r ≡ m = div-add-mod' m (10 ^ k) in
    let power : a * 10 ^ suc k ≡ a * (10 ^ k * 10) = ap (λ p. a * p) (pow-suc 10 k) in
    record {
      places = omega (arith, ap (λ xs. length xs) step, later.places);
      value =
          ap (λ xs. digits_value_after 10 a xs * 10 ^ (suc k - length xs)) step ∙
          ap (λ d. digits_value_after 10 (a * 10 + d) ds * 10 ^ (suc k - length ((48 + q) ∷ ds))) digit ∙
          ap (λ p. digits_value_after 10 (a * 10 + q) ds * 10 ^ p) left ∙ later.value ∙ omega (arith, parts, power);
    }

nearest-whole : (f p : ℕ) → 0 < p → nearest (f * p) p ≡ f
nearest-whole f p above =
    let same : 2 * (f * p) + p ≡ f * (2 * p) + p = omega arith in
    ap (λ x. x / (2 * p)) same ∙ div-mul-add f (2 * p) p (omega arith)

decimals_value-decimals : (f : ℕ) → f < 10 ^ 6 → decimals_value (decimals 6 f) ≡ f
decimals_value-decimals f below =
    let s = scaled 6 f 0 below in
    let ds = decimals 6 f in
    let v = digits_value 10 ds in
    let p = 10 ^ length ds in
    let rest = 10 ^ (6 - length ds) in
    let six : 6 - length ds + length ds ≡ 6 = omega (arith, s.places) in
    let power : rest * p ≡ 10 ^ 6 = sym (pow-add 10 (6 - length ds) (length ds)) ∙ ap (λ m. 10 ^ m) six in
    let value : v * rest * p ≡ f * p = ap (λ x. x * p) (s.value ∙ omega arith) in
    let all : v * unit ≡ f * p = omega (arith, value, ap (λ x. v * x) power) in
    ap (λ x. nearest x p) all ∙ nearest-whole f p (one-le-pow (length ds) 10 (lit≤ tt))

-- ---- a number's text without its sign

fraction_text-zero : fraction_text 0 ≡ []
unfolding fraction_text
fraction_text-zero = refl

-- an unsigned text that says this size
record Says (text : List ℕ) (size : ℕ) : Type 0 where
  decimal_text : is_decimal 46 text ≡ true
  value : decimal_value 46 text ≡ size
  no_sign : starts_with_minus text ≡ false

digits_start : (ds rest : List ℕ) → Starts ds → list_all is_ascii_digit ds ≡ true → starts_with_minus (ds ++ rest) ≡ false
digits_start [] rest h all = cc
digits_start (c ∷ cs) rest h all = not_minus c (both_true (is_ascii_digit c) (list_all is_ascii_digit cs) all).0

says-whole : (w : ℕ) → w < 2 ^ 64 → Says (decimal w ++ fraction_text 0) (w * unit + 0)
says-whole w below =
    let ds = decimal w in
    let numeral = decimal_is_IsNumeral w below in
    let all = list_all-from_digits ds numeral.0.1 in
    let some = starts_from_length ds numeral.0.0 in
    let same : ds ++ fraction_text 0 ≡ ds = ap (λ xs. ds ++ xs) fraction_text-zero ∙ append-nil ds in
    let none = no_point-digits ds all in
    record {
      decimal_text = ap (is_decimal 46) same ∙ is_decimal-none 46 ds none ∙ is_digits-from_starts ds some all;
      value = ap (decimal_value 46) same ∙ decimal_value-none 46 ds none ∙ omega (arith, numeral.1);
      no_sign = digits_start ds (fraction_text 0) some all;
    }

point_after : (ds fs : List ℕ) → list_all is_ascii_digit ds ≡ true → HasPointAt 46 (ds ++ 46 ∷ fs) (length ds)
point_after ds fs all =
    let text = ds ++ 46 ∷ fs in
    let first : position_or_len (is_decimal_sign 46) text ≡ length ds = position-digits ds (46 ∷ fs) all ∙ omega arith in
    let within : length ds < length text = omega (arith, length-append ds (46 ∷ fs)) in
    let test : ltb (position_or_len (is_decimal_sign 46) text) (length text) ≡ true = ap (λ n. ltb n (length text)) first ∙ grind (arith, nat_tests) in
    record { any = any-position (is_decimal_sign 46) text ∙ test; first = first; within = within }

drop-past : (ds fs : List ℕ) → drop (length ds + 1) (ds ++ 46 ∷ fs) ≡ fs
drop-past ds fs =
    let same : ds ++ 46 ∷ fs ≡ (ds ++ 46 ∷ []) ++ fs = sym (append_assoc ds (46 ∷ []) fs) in
    ap (λ xs. drop (length ds + 1) xs) same ∙
    drop_at (ds ++ 46 ∷ []) fs (length ds + 1) (length-append ds (46 ∷ []) ∙ omega arith)

says-parts : (w f : ℕ) → w < 2 ^ 64 → 0 < f → f < 10 ^ 6 → Says (decimal w ++ fraction_text f) (w * unit + f)
says-parts w f below above small =
    let ds = decimal w in
    let fs = decimals 6 f in
    let numeral = decimal_is_IsNumeral w below in
    let all = list_all-from_digits ds numeral.0.1 in
    let some = starts_from_length ds numeral.0.0 in
    let same : ds ++ fraction_text f ≡ ds ++ 46 ∷ fs = ap (λ xs. ds ++ xs) (fraction_text-pos f above) in
    let point = point_after ds fs all in
    let front : take (length ds) (ds ++ 46 ∷ fs) ≡ ds = take-append_seam ds (46 ∷ fs) in
    let back = drop-past ds fs in
    let whole_digits : is_digits (take (length ds) (ds ++ 46 ∷ fs)) ≡ true = ap is_digits front ∙ is_digits-from_starts ds some all in
    let decimals_digits : is_digits (drop (length ds + 1) (ds ++ 46 ∷ fs)) ≡ true =
    ap is_digits back ∙ is_digits-from_starts fs (starts 6 f small above) (decimals_all 6 f small) in
    let whole_value : digits_value 10 (take (length ds) (ds ++ 46 ∷ fs)) ≡ w = ap (λ xs. digits_value 10 xs) front ∙ numeral.1 in
    let fraction : decimals_value (drop (length ds + 1) (ds ++ 46 ∷ fs)) ≡ f = ap decimals_value back ∙ decimals_value-decimals f small in
    record {
      decimal_text =
          ap (is_decimal 46) same ∙ is_decimal-point 46 (ds ++ 46 ∷ fs) (length ds) point ∙
          ap (λ b. b && is_digits (drop (length ds + 1) (ds ++ 46 ∷ fs))) whole_digits ∙ decimals_digits;
      value = ap (decimal_value 46) same ∙ decimal_value-point 46 (ds ++ 46 ∷ fs) (length ds) point ∙ omega (arith, whole_value, fraction);
      no_sign = digits_start ds (fraction_text f) some all;
    }

says-at : (w f : ℕ) → w < 2 ^ 64 → f < 10 ^ 6 → Says (decimal w ++ fraction_text f) (w * unit + f)
says-at w zero below small = says-whole w below
says-at w (suc n) below small = says-parts w (suc n) below (omega arith) small

unsigned_text : ℕ → List ℕ
unsigned_text size = decimal (size / unit) ++ fraction_text (size % unit)

says : (size : ℕ) → size ≤ most_millionths → Says (unsigned_text size) size
unfolding unsigned_text
says size h =
    let parts : size / unit * unit + size % unit ≡ size = omega arith in
    let P : ℕ → Type 0 = λ n. Says (decimal (size / unit) ++ fraction_text (size % unit)) n in
    subst P parts (says-at (size / unit) (size % unit) (omega arith) (omega arith))

-- ---- with its sign

pub not_negative : (n : ℕ) → is_negative (pos n) ≡ false
not_negative n = grind (arith, nat_tests)

printed-pos : (n : ℕ) → printed (Num (pos n)) ≡ unsigned_text n
unfolding printed unsigned_text
printed-pos n =
    ap (λ b. (if b then codes "-" else []) ++ decimal (n / unit) ++ fraction_text (n % unit)) (not_negative n)

printed-negsuc : (n : ℕ) → printed (Num (negsuc n)) ≡ 45 ∷ unsigned_text (suc n)
unfolding printed unsigned_text
printed-negsuc n = refl

number_of-unsigned : (text : List ℕ) (size : ℕ) → Says text size → number_of text ≡ Some (pos size)
unfolding number_with
number_of-unsigned text size s =
    ap (λ b. if b then number_after_sign 46 true (drop 1 text) else number_after_sign 46 false text) s.no_sign ∙
    number_after_sign-decimal 46 false text s.decimal_text ∙ ap (λ v. Some (signed false v)) s.value

number_of-minus : (text : List ℕ) (size : ℕ) → Says text size → number_of (45 ∷ text) ≡ Some (signed true size)
unfolding number_with
number_of-minus text size s =
    number_after_sign-decimal 46 true text s.decimal_text ∙ ap (λ v. Some (signed true v)) s.value

pub number_of-printed : (z : ℤ) → IsInRange z → number_of (printed (Num z)) ≡ Some z
number_of-printed (pos n) h = ap number_of (printed-pos n) ∙ number_of-unsigned (unsigned_text n) n (says n h)
number_of-printed (negsuc n) h =
    ap number_of (printed-negsuc n) ∙ number_of-minus (unsigned_text (suc n)) (suc n) (says (suc n) h)

pub round_trip : (text : List ℕ) (r : Result ℤ NumberFault) → r ≡ reading_of (number_of text) → (m : ℤ) → IsInRange m → text ≡ printed (Num m) → r ≡ Ok m
round_trip text r is m range e =
    let yes : nat_le (unsigned_abs m) most_millionths ≡ true = grind (arith, nat_tests) in
    is ∙ ap (λ t. reading_of (number_of t)) e ∙ ap reading_of (number_of-printed m range) ∙
    ap (λ b. if b then Ok m else Err TooLarge) yes
