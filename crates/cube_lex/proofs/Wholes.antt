-- A whole number as it is printed is a number.
use Rattle.std.proofs.Common.{◌≡◌, ℕ, ◌+◌, ◌%◌, ◌^◌, ◌<◌, true, List, [], ◌∷◌, ◌++◌, refl, arith, nat_le, decimal}
use Rattle.std.proofs.lemmas.Bool.{le-leb}
use Rattle.std.proofs.lemmas.Fmt.{decimal_by_steps}
use Rattle.std.specs.Char.{is_ascii_digit}
use Rattle.std.specs.List.{list_all}
use Rattle.cube_lex.specs.Parts.{IsDigits}
use Rattle.cube_lex.proofs.Runs.{list_all-append}

pub digit-passes : (d : ℕ) → d < 10 → is_ascii_digit (48 + d) ≡ true
digit-passes d small =
    let low : nat_le 48 (48 + d) ≡ true = le-leb 48 (48 + d) (omega arith) in
    let high : nat_le (48 + d) 57 ≡ true = le-leb (48 + d) 57 (omega arith) in
    rw (low, high) refl

digits-more : (bytes : List ℕ) (d : ℕ) → d < 10 → IsDigits bytes → IsDigits (bytes ++ (48 + d) ∷ [])
digits-more [] d small is = absurd is
digits-more (b ∷ bs) d small is =
    let last : list_all is_ascii_digit ((48 + d) ∷ []) ≡ true = rw (digit-passes d small) refl in
    list_all-append is_ascii_digit (b ∷ bs) ((48 + d) ∷ []) is last

pub decimal-is_digits : (n : ℕ) → n < 2 ^ 64 → IsDigits (decimal n)
decimal-is_digits n small = decimal_by_steps (λ _ bytes. IsDigits bytes) (λ d below. rw (digit-passes d below) refl) (λ m bytes above is. digits-more bytes (m % 10) (omega arith) is) n small
