-- Names in quotes.
use Rattle.std.proofs.Common.{◌≡◌, ◌∙◌, ◌<◌, ◌+◌, ℕ, List, [], ◌∷◌, ◌++◌, length, length-append, cond, Bool, true, false, not, nat_le, if◌then◌else◌, refl, sym, ap, arith}
use Rattle.std.specs.Prelude.{count_by}
use Rattle.std.proofs.lemmas.Bool.{and_parts, and_from, lt-leb}
use Rattle.std.proofs.lemmas.Bool.Decides.{nat_tests}
use Rattle.std.proofs.lemmas.List.Sums.{sum_by-cons}
use Rattle.std.specs.Char.{is_ascii_control}
use Rattle.std.specs.List.{list_all, list_any}
use Rattle.dim_name.specs.Name.{is_name, is_not_space}
use Rattle.cube_lex.specs.Bytes.{is_plain, is_quote}
use Rattle.cube_lex.specs.Parts.{most_token_bytes}
use Rattle.cube_lex.specs.Quoted.{doubled, quoted}
use Rattle.rule_printer.specs.Writable.{is_quotable}
use Rattle.feed_print.specs.FeederTexts.{fits}

doubled_size : (bytes : List ℕ) → length (doubled bytes) ≡ length bytes + count_by is_quote bytes
doubled_size [] = refl
doubled_size (b ∷ bytes) = by (is_quote b) refl (doubled_size bytes)
  where
    counted : (q : Bool) → is_quote b ≡ q → count_by is_quote (b ∷ bytes) ≡ cond q 1 0 + count_by is_quote bytes
    counted q is = sum_by-cons (λ x. cond (is_quote x) 1 0) b bytes ∙ ap (λ p. cond p 1 0 + count_by is_quote bytes) is

    long : (q : Bool) → is_quote b ≡ q → length (doubled (b ∷ bytes)) ≡ length ((if q then b ∷ b ∷ [] else b ∷ []) ++ doubled bytes)
    long q is = ap (λ p. length ((if p then b ∷ b ∷ [] else b ∷ []) ++ doubled bytes)) is

    by : (q : Bool) → is_quote b ≡ q → length (doubled bytes) ≡ length bytes + count_by is_quote bytes
        → length (doubled (b ∷ bytes)) ≡ length (b ∷ bytes) + count_by is_quote (b ∷ bytes)
    by true is more =
        let twice : length (doubled (b ∷ bytes)) ≡ 2 + length (doubled bytes) = long true is ∙ (omega arith) in
        let one : count_by is_quote (b ∷ bytes) ≡ 1 + count_by is_quote bytes = counted true is in
        omega (arith, twice, one, more)
    by false is more =
        let once : length (doubled (b ∷ bytes)) ≡ 1 + length (doubled bytes) = long false is ∙ (omega arith) in
        let none : count_by is_quote (b ∷ bytes) ≡ 0 + count_by is_quote bytes = counted false is in
        omega (arith, once, none, more)

pub quoted_size : (bytes : List ℕ) → length (quoted bytes) ≡ length bytes + count_by is_quote bytes + 2
quoted_size bytes = omega (arith, length-append (doubled bytes) (39 ∷ []), doubled_size bytes)

-- a name that is too long itself
pub too_long : (bytes : List ℕ) → 1024 < length bytes → false ≡ fits bytes
too_long bytes long = sym (lt-leb (length (quoted bytes)) 1024 (omega (arith, long, quoted_size bytes)))

plain_byte : (b : ℕ) → not (is_ascii_control b) ≡ true → is_plain b ≡ true
plain_byte b h = grind (arith, nat_tests)

plain_bytes : (bytes : List ℕ) → list_all (λ b. not (is_ascii_control b)) bytes ≡ true → list_all is_plain bytes ≡ true
plain_bytes [] h = refl
plain_bytes (b ∷ bytes) h =
    let (first, rest) = and_parts (not (is_ascii_control b)) (list_all (λ x. not (is_ascii_control x)) bytes) h in
    and_from (is_plain b) (list_all is_plain bytes) (plain_byte b first) (plain_bytes bytes rest)

pub name_quotable : (name : List ℕ) → is_name name ≡ true → fits name ≡ true → is_quotable name ≡ true
unfolding is_quotable
name_quotable name is short =
    let (printable, visible) = and_parts (list_all (λ b. not (is_ascii_control b)) name) (list_any is_not_space name) is in
    and_from (list_all is_plain name) (nat_le (length (quoted name)) most_token_bytes) (plain_bytes name printable) short
