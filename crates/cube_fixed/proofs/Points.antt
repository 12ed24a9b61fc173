-- The parts of a text round its point, and the sizes that are read up to a cap.
use Rattle.std.proofs.Common.{◌≡◌, ◌∙◌, sym, ap, refl, inl, inr, arith, ℕ, zero, suc, ◌+◌, ◌*◌, ◌<◌, ◌≤◌, min, ℤ, unsigned_abs, Bool, true, false, not, ◌&&◌, ◌||◌, cond, ltb, eqb, List, [], ◌∷◌, length, take, drop, Option, Some, None, Ok, Err, nat_le, if◌then◌else◌, position}
use Rattle.std.specs.List.{list_any, starts_with, position_or_len, before_first, after_first}
use Rattle.std.specs.Str.Parse.{digits_value, starts_with_minus}
use Rattle.std.specs.Option.{SomeIff, ok_or}
use Rattle.std.proofs.lemmas.Bool.Decides.{nat_tests}
use Rattle.std.proofs.lemmas.List.{take_all, drop_all}
use Rattle.std.proofs.lemmas.Bool.{cases_lt}
use Rattle.cube_fixed.specs.declared.reading.NumberFault.TheVariants.{TooLarge}
use Rattle.cube_fixed.specs.Range.{IsInRange, most_millionths, unit}
use Rattle.cube_fixed.specs.Text.{is_decimal_sign, is_digits, is_decimal, signed, decimals_value, decimal_value, number_after_sign, reading_of}

-- a test passes somewhere just where the first place that passes is within the list
pub any-position : (p : ℕ → Bool) (xs : List ℕ) → list_any p xs ≡ ltb (position_or_len p xs) (length xs)
any-position p [] = refl
any-position p (x ∷ xs) =
    elim (p x) as (λ b. (b || list_any p xs) ≡ ltb (cond (not b) (1 + position_or_len p xs) 0) (length (x ∷ xs))) [
      | true ↦ grind (arith, nat_tests)
      | false ↦ any-position p xs ∙ grind (arith, nat_tests)
    ]

-- the code's test for `-`
pub starts_with-minus : (text : List ℕ) → starts_with eqb text (45 ∷ []) ≡ starts_with_minus text
starts_with-minus [] = refl
starts_with-minus (c ∷ cs) = grind (arith, nat_tests)

-- `decimal` is the decimal sign
module _ (decimal : ℕ) where
  -- where `position` found the point
  pub record HasPointAt (text : List ℕ) (at : ℕ) : Type 0 where
    pub any : list_any (is_decimal_sign decimal) text ≡ true
    pub first : position_or_len (is_decimal_sign decimal) text ≡ at
    pub within : at < length text

  pub point_found : (text : List ℕ) (at : ℕ) → position (is_decimal_sign decimal) text ≡ Some at → HasPointAt text at
  point_found text at h =
      let go : (b : Bool) → ltb (position_or_len (is_decimal_sign decimal) text) (length text) ≡ b →
      cond b (Some (position_or_len (is_decimal_sign decimal) text)) None ≡ Some at → HasPointAt text at =
      λ b. elim b as (λ b. ltb (position_or_len (is_decimal_sign decimal) text) (length text) ≡ b →
      cond b (Some (position_or_len (is_decimal_sign decimal) text)) None ≡ Some at → HasPointAt text at) [
        | true ↦ λ e f.
            let first : position_or_len (is_decimal_sign decimal) text ≡ at = cc in
            record { any = any-position (is_decimal_sign decimal) text ∙ e; first = first; within = grind (arith, nat_tests) }
        | false ↦ λ e f. cc
      ] in
      go (ltb (position_or_len (is_decimal_sign decimal) text) (length text)) refl h

  pub point_missing : (text : List ℕ) → position (is_decimal_sign decimal) text ≡ None → list_any (is_decimal_sign decimal) text ≡ false
  point_missing text h =
      let go : (b : Bool) → ltb (position_or_len (is_decimal_sign decimal) text) (length text) ≡ b →
      cond b (Some (position_or_len (is_decimal_sign decimal) text)) None ≡ None → list_any (is_decimal_sign decimal) text ≡ false =
      λ b. elim b as (λ b. ltb (position_or_len (is_decimal_sign decimal) text) (length text) ≡ b →
      cond b (Some (position_or_len (is_decimal_sign decimal) text)) None ≡ None → list_any (is_decimal_sign decimal) text ≡ false) [
        | true ↦ λ e f. cc
        | false ↦ λ e f. any-position (is_decimal_sign decimal) text ∙ e
      ] in
      go (ltb (position_or_len (is_decimal_sign decimal) text) (length text)) refl h

  -- with no point all stands before it, and nothing after it
  pub before_first-none : (text : List ℕ) → list_any (is_decimal_sign decimal) text ≡ false → before_first (is_decimal_sign decimal) text ≡ text
  before_first-none text h =
      let e = sym (any-position (is_decimal_sign decimal) text) ∙ h in
      let far : length text ≤ position_or_len (is_decimal_sign decimal) text = grind (arith, nat_tests) in
      take_all _ text far

  pub after_first-none : (text : List ℕ) → list_any (is_decimal_sign decimal) text ≡ false → after_first (is_decimal_sign decimal) text ≡ []
  after_first-none text h =
      let e = sym (any-position (is_decimal_sign decimal) text) ∙ h in
      let far : length text ≤ position_or_len (is_decimal_sign decimal) text = grind (arith, nat_tests) in
      drop_all (position_or_len (is_decimal_sign decimal) text + 1) text (omega arith)

  -- what the two parts round the point say of the text
  pub is_decimal-point : (text : List ℕ) (at : ℕ) → HasPointAt text at → is_decimal decimal text ≡ (is_digits (take at text) && is_digits (drop (at + 1) text))
  is_decimal-point text at p =
      ap (λ b. if b then is_digits (before_first (is_decimal_sign decimal) text) && is_digits (after_first (is_decimal_sign decimal) text) else is_digits text) p.any ∙
      ap (λ n. is_digits (take n text) && is_digits (drop (n + 1) text)) p.first

  pub decimal_value-point : (text : List ℕ) (at : ℕ) → HasPointAt text at → decimal_value decimal text ≡ digits_value 10 (take at text) * unit + decimals_value (drop (at + 1) text)
  decimal_value-point text at p =
      ap (λ n. digits_value 10 (take n text) * unit + decimals_value (drop (n + 1) text)) p.first

  pub is_decimal-none : (text : List ℕ) → list_any (is_decimal_sign decimal) text ≡ false → is_decimal decimal text ≡ is_digits text
  is_decimal-none text h =
      ap (λ b. if b then is_digits (before_first (is_decimal_sign decimal) text) && is_digits (after_first (is_decimal_sign decimal) text) else is_digits text) h

  pub decimal_value-none : (text : List ℕ) → list_any (is_decimal_sign decimal) text ≡ false → decimal_value decimal text ≡ digits_value 10 text * unit
  decimal_value-none text h =
      let whole : digits_value 10 (before_first (is_decimal_sign decimal) text) ≡ digits_value 10 text = ap (λ xs. digits_value 10 xs) (before_first-none text h) in
      let rest : decimals_value (after_first (is_decimal_sign decimal) text) ≡ 0 = ap decimals_value (after_first-none text h) in
      omega (arith, whole, rest)

-- ---- the range

unsigned_abs-signed : (negative : Bool) (n : ℕ) → unsigned_abs (signed negative n) ≡ n
unsigned_abs-signed true zero = refl
unsigned_abs-signed true (suc n) = refl
unsigned_abs-signed false n = refl

too_large : (negative : Bool) (n : ℕ) → most_millionths < n → reading_of (Some (signed negative n)) ≡ Err TooLarge
too_large negative n above =
    let size = unsigned_abs-signed negative n in
    let no : nat_le (unsigned_abs (signed negative n)) most_millionths ≡ false = ap (λ m. nat_le m most_millionths) size ∙ grind (arith, nat_tests) in
    ap (λ b. if b then Ok (signed negative n) else Err TooLarge) no

-- what is read up to the limit answers as the whole does
pub capped_reading : (negative : Bool) (size : ℕ) → reading_of (Some (signed negative (min size (most_millionths + 1)))) ≡ reading_of (Some (signed negative size))
capped_reading negative size =
    elim (cases_lt most_millionths size) [
      | inl above ↦
          let capped : most_millionths < min size (most_millionths + 1) = omega arith in
          too_large negative (min size (most_millionths + 1)) capped ∙ sym (too_large negative size above)
      | inr within ↦
          let same : min size (most_millionths + 1) ≡ size = omega arith in
          ap (λ n. reading_of (Some (signed negative n))) same
    ]

-- `Money::of`, with the fault
pub reading_of_money : (z : ℤ) (r : Option ℤ) → SomeIff r (IsInRange z) z → ok_or r TooLarge ≡ reading_of (Some z)
reading_of_money z (Some x) h =
    let yes : nat_le (unsigned_abs z) most_millionths ≡ true = grind (arith, nat_tests) in
    ap (λ y. Ok y) h.1 ∙ sym (ap (λ b. if b then Ok z else Err TooLarge) yes)
reading_of_money z None h =
    let no : nat_le (unsigned_abs z) most_millionths ≡ false = grind (arith, nat_tests) in
    sym (ap (λ b. if b then Ok z else Err TooLarge) no)

pub number_after_sign-decimal : (decimal : ℕ) (negative : Bool) (text : List ℕ) → is_decimal decimal text ≡ true → number_after_sign decimal negative text ≡ Some (signed negative (decimal_value decimal text))
number_after_sign-decimal decimal negative text h =
    ap (λ b. if b then Some (signed negative (decimal_value decimal text)) else None) h
