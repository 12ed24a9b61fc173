-- The value of digits, which a loop takes no further than the limit.
use Rattle.std.proofs.Common.{◌≡◌, ℕ, ◌+◌, ◌*◌, ◌-◌, ◌<◌, ◌≤◌, zero, suc, min, nat_lt, Bool, true, false, ◌&&◌, if◌then◌else◌, List, [], ◌∷◌, ◌++◌, length, take, get_or, Some, None, refl, sym, ◌∙◌, ap, arith}
use Rattle.std.specs.Char.{is_ascii_digit, digit_value}
use Rattle.std.specs.List.{list_all}
use Rattle.std.specs.Str.Parse.{digits_value}
use Rattle.std.proofs.lemmas.Bool.Decides.{nat_tests}
use Rattle.std.proofs.lemmas.Int.Digits.{digits_value_push}
use Rattle.std.proofs.lemmas.Str.{digit_value_digit}
use Rattle.std.proofs.Math.Seq.{take-suc}
use Rattle.grammar.specs.Tokens.{is_whole, whole_end}
use Rattle.grammar.proofs.Tokens.{and_is}
use Rattle.std.proofs.lemmas.Bool.{and_from as both_true, and_right as second_false}
use Rattle.cube_fixed.proofs.Decimals.{digit_from_test as digit_range}

pub all_at : (p : ℕ → Bool) (xs : List ℕ) (i : ℕ) → list_all p xs ≡ true → i < length xs → p (get_or xs i 0) ≡ true
all_at p [] i e h = absurd (omega (arith, h))
all_at p (x ∷ xs) zero e h = (and_is (p x) (list_all p xs) e).0
all_at p (x ∷ xs) (suc i) e h = all_at p xs i (and_is (p x) (list_all p xs) e).1 (omega (arith, h))

capped : (a d : ℕ) → min (min a whole_end * 10 + d) whole_end ≡ min (a * 10 + d) whole_end
capped a d = omega arith

-- one digit more
pub value_next : (piece : List ℕ) (i v : ℕ) → list_all is_ascii_digit piece ≡ true → i < length piece → v ≡ min (digits_value 10 (take i piece)) whole_end → (48 ≤ get_or piece i 0) × (get_or piece i 0 ≤ 57) × (min (v * 10 + (get_or piece i 0 - 48)) whole_end ≡ min (digits_value 10 (take (i + 1) piece)) whole_end)
value_next piece i v digits h is =
    let (low, high) = digit_range (get_or piece i 0) (all_at is_ascii_digit piece i digits h) in
    let longer : take (suc i) piece ≡ take i piece ++ get_or piece i 0 ∷ [] = take-suc piece i 0 h in
    let pushed : digits_value 10 (take i piece ++ get_or piece i 0 ∷ []) ≡ digits_value 10 (take i piece) * 10 + digit_value (get_or piece i 0) = digits_value_push 10 (take i piece) (get_or piece i 0) in
    let value : digit_value (get_or piece i 0) + 48 ≡ get_or piece i 0 = digit_value_digit (get_or piece i 0) (low, high) in
    let one_more : i + 1 ≡ suc i = omega arith in
    let next : digits_value 10 (take (i + 1) piece) ≡ digits_value 10 (take i piece) * 10 + (get_or piece i 0 - 48) = ap (λ n. digits_value 10 (take n piece)) one_more ∙ ap (digits_value 10) longer ∙ pushed ∙ omega (arith, value) in
    (low, high, ap (λ n. min (n * 10 + (get_or piece i 0 - 48)) whole_end) is ∙ capped (digits_value 10 (take i piece)) (get_or piece i 0 - 48) ∙ ap (λ n. min n whole_end) (sym next))

chosen : (b : Bool) (x : ℕ) → b ≡ true → Some x ≡ (if b then Some x else None)
chosen true x e = refl
chosen false x e = cc

refused : (b : Bool) (x : ℕ) → b ≡ false → None ≡ (if b then Some x else None)
refused true x e = cc
refused false x e = refl

below : (a b : ℕ) → a < b → nat_lt a b ≡ true
below a b h = grind (arith, nat_tests)

not_below : (a b : ℕ) → b ≤ a → nat_lt a b ≡ false
not_below a b h = grind (arith, nat_tests)

pub whole_is : (piece : List ℕ) (v : ℕ) → list_all is_ascii_digit piece ≡ true → v ≡ min (digits_value 10 piece) whole_end → v < whole_end → Some v ≡ (if is_whole piece then Some (digits_value 10 piece) else None)
whole_is piece v digits is h =
    let same : v ≡ digits_value 10 piece = omega (arith, is, h) in
    let small : nat_lt (digits_value 10 piece) whole_end ≡ true = below (digits_value 10 piece) whole_end (omega (arith, is, h)) in
    ap (λ n. Some n) same ∙ chosen (is_whole piece) (digits_value 10 piece) (both_true (list_all is_ascii_digit piece) (nat_lt (digits_value 10 piece) whole_end) digits small)

pub whole_large : (piece : List ℕ) (v : ℕ) → v ≡ min (digits_value 10 piece) whole_end → whole_end ≤ v → None ≡ (if is_whole piece then Some (digits_value 10 piece) else None)
whole_large piece v is h = refused (is_whole piece) (digits_value 10 piece) (second_false (list_all is_ascii_digit piece) (nat_lt (digits_value 10 piece) whole_end) (not_below (digits_value 10 piece) whole_end (omega (arith, is, h))))
