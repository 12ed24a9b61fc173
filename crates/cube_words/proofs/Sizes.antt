-- Digits that aren't read as a number are no size.
use Rattle.std.proofs.Common.{◌≡◌, ◌<◌, ◌==◌, ◌^◌, ℕ, List, [], ◌∷◌, length, false, true, Err, arith, refl}
use Rattle.std.specs.Char.{is_ascii_digit}
use Rattle.std.specs.List.{list_all}
use Rattle.std.specs.Str.Parse.{AllDigits, ParsesUnsigned, digits_value, without_leading_plus}
use Rattle.std.proofs.lemmas.Bool.Decides.{nat_tests}
use Rattle.std.proofs.lemmas.Str.{digit_value_digit}
use Rattle.cube_fixed.proofs.Decimals.{digit_from_test}
use Rattle.cube_words.specs.Words.{IsSize}
use Rattle.std.proofs.lemmas.Bool.{and_parts as both}

first_and_rest : (x : ℕ) (xs : List ℕ) → list_all is_ascii_digit (x ∷ xs) ≡ true
    → (is_ascii_digit x ≡ true) × (list_all is_ascii_digit xs ≡ true)
first_and_rest x xs h = both (is_ascii_digit x) (list_all is_ascii_digit xs) h

all_digits : (xs : List ℕ) → list_all is_ascii_digit xs ≡ true → AllDigits 10 xs
all_digits [] h = tt
all_digits (x ∷ xs) h =
    let (first, rest) = first_and_rest x xs h in
    let value = digit_value_digit x (digit_from_test x first) in
    let (low, high) = digit_from_test x first in
    (omega (arith, value, low, high), all_digits xs rest)

no_plus : (xs : List ℕ) → list_all is_ascii_digit xs ≡ true → without_leading_plus xs ≡ xs
no_plus [] h = refl
no_plus (x ∷ xs) h =
    let (low, high) = digit_from_test x (first_and_rest x xs h).0 in
    let other : (x == 43) ≡ false = grind (arith, nat_tests) in
    rw other refl

some_digits : (text : List ℕ) (size : ℕ) → IsSize text size → 0 < length text
some_digits [] size is =
    let none : 0 ≡ size = is.value in
    let least = is.least in
    absurd (omega arith)
some_digits (x ∷ xs) size is = omega arith

pub not_a_size : {E : Type 0} (text : List ℕ) (e : E) (size : ℕ) → ParsesUnsigned 32 10 text (Err e) → ¬ IsSize text size
not_a_size text e size fails is =
    let plain = no_plus text is.digits_only in
    let value = is.value in
    let most = is.most in
    let small : digits_value 10 text < 2 ^ 32 = omega arith in
    (rw plain at fails) ((some_digits text size is, all_digits text is.digits_only), small)
