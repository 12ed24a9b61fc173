-- Tokens that are written one after another.
use Rattle.std.proofs.Common.{◌≡◌, ◌≤◌, ◌<◌, ◌+◌, ◌*◌, ◌/◌, ◌%◌, ◌^◌, ℕ, zero, suc, ℤ, pos, negsuc, List, [], ◌∷◌, ◌++◌, length, length-append, take, get_or, Bool, true, false, ◌&&◌, nat_le, refl, sym, ap, ◌∙◌, subst, inl, inr, ◌⊎◌, append-nil, append_assoc, codes, decimal, arith, if◌then◌else◌}
use Rattle.std.proofs.Math.Nat.{div-lt_iff_lt-mul, one-le-pow}
use Rattle.std.proofs.lemmas.Bool.{leb-true, and_parts, cases_Bool, ne_eqb}
use Rattle.std.proofs.lemmas.Bool.Decides.{nat_tests}
use Rattle.std.proofs.lemmas.Fmt.{length-decimal-le}
use Rattle.std.proofs.lemmas.Grind.{flat_map-append}
use Rattle.std.proofs.lemmas.List.{take_more}
use Rattle.std.proofs.lemmas.List.Folds.{list_all_at}
use Rattle.std.specs.Char.{is_ascii_digit}
use Rattle.std.specs.Int.{is_negative}
use Rattle.std.specs.List.{flat_map, list_all}
use Rattle.cube_fixed.proofs.Digits.{decimals, decimals-zero, decimals-step, below_place, starts, Starts, fraction_text-pos}
use Rattle.cube_fixed.specs.Range.{IsInRange, unit, most_millionths}
use Rattle.cube_fixed.specs.Text.{printed, fraction_text}
use Rattle.cube_fixed.specs.declared.value.Value.TheVariants.{Num}
use Rattle.cube_lex.proofs.Wholes.{decimal-is_digits, digit-passes as digit_passes}
use Rattle.cube_lex.proofs.Spaced.{spaces-both, writes-more}
use Rattle.cube_lex.specs.Bytes.{is_plain, starts_word, is_word_byte}
use Rattle.cube_lex.specs.Parts.{IsWord, IsDigits, IsNumber, most_token_bytes}
use Rattle.cube_lex.specs.Quoted.{quoted}
use Rattle.cube_lex.specs.Written.{Spelling, Spaces, Writes, sign_token}
use Rattle.rule_printer.specs.Inside.Separated.{separator}
use Rattle.rule_printer.specs.Spelled.{is_word_text, next_spelled, listed_spelled, name_spelled, elements_spelled}
use Rattle.rule_printer.specs.Writable.{is_quotable, is_short_word}
pub use Rattle.cube_lex.proofs.Adding.{then_spaces as then_adds, then_writes, writes_same, spaces_same as adds_same}

-- Tokens that may be written.

pub quotable_plain : (bytes : List ℕ) → is_quotable bytes ≡ true → list_all is_plain bytes ≡ true
unfolding is_quotable
quotable_plain bytes is = (and_parts (list_all is_plain bytes) (nat_le (length (quoted bytes)) most_token_bytes) is).0

pub quotable_short : (bytes : List ℕ) → is_quotable bytes ≡ true → length (quoted bytes) ≤ most_token_bytes
unfolding is_quotable
quotable_short bytes is = leb-true _ _ (and_parts (list_all is_plain bytes) (nat_le (length (quoted bytes)) most_token_bytes) is).1

word_of : (bytes : List ℕ) → is_word_text bytes ≡ true → IsWord bytes
word_of [] is = cc
word_of (b ∷ bytes) is = and_parts (starts_word b) (list_all is_word_byte bytes) is

pub short_word : (bytes : List ℕ) → is_short_word bytes ≡ true → IsWord bytes
unfolding is_short_word
short_word bytes is = word_of bytes (and_parts (is_word_text bytes) (nat_le (length bytes) most_token_bytes) is).0

pub short_length : (bytes : List ℕ) → is_short_word bytes ≡ true → length bytes ≤ most_token_bytes
unfolding is_short_word
short_length bytes is = leb-true _ _ (and_parts (is_word_text bytes) (nat_le (length bytes) most_token_bytes) is).1

-- one of a list
pub one_passes : {X : Type 0} (p : X → Bool) (xs : List X) (i : ℕ) (x : X) → i < length xs → x ≡ get_or xs i x → list_all p xs ≡ true → p x ≡ true
one_passes p xs i x within is all = decided (cases_Bool (p x)) where
  decided : (p x ≡ true) ⊎ (p x ≡ false) → p x ≡ true
  decided (inl e) = e
  decided (inr e) = let none : list_all p xs ≡ false = list_all_at p xs i x within (ap p (sym is) ∙ e) in cc

-- The text of a number.

-- the decimals of a fraction are so many digits at most
decimals_are : (k n : ℕ) → n < 10 ^ k → (list_all is_ascii_digit (decimals k n) ≡ true) × (length (decimals k n) ≤ k)
decimals_are k zero below = (ap (λ xs. list_all is_ascii_digit xs) (decimals-zero k), omega (arith, ap length (decimals-zero k)))
decimals_are zero (suc n) below = absurd (omega arith)
decimals_are (suc k) (suc n) below =
    let some : 0 < suc n = omega arith in
    let split : decimals (suc k) (suc n) ≡ (48 + suc n / 10 ^ k) ∷ decimals k (suc n % 10 ^ k) = decimals-step k (suc n) some in
    let above : 0 < 10 ^ k = one-le-pow k 10 (omega arith) in
    let whole : 10 ^ suc k ≡ 10 ^ k * 10 = omega arith in
    let small : suc n / 10 ^ k < 10 = (div-lt_iff_lt-mul above).1 (omega (arith, below, whole)) in
    let (digits, short) = decimals_are k (suc n % 10 ^ k) (below_place k (suc n)) in
    (ap (λ xs. list_all is_ascii_digit xs) split ∙ ap (λ b. b && list_all is_ascii_digit (decimals k (suc n % 10 ^ k))) (digit_passes (suc n / 10 ^ k) small) ∙ digits, omega (arith, ap length split, short))

digits_of : (bytes : List ℕ) → Starts bytes → list_all is_ascii_digit bytes ≡ true → IsDigits bytes
digits_of [] some all = let (c, cs, is) = some in cc
digits_of (b ∷ bytes) some all = all

number_text : (w f : ℕ) → w < 2 ^ 64 → f < 10 ^ 6 → IsNumber (decimal w ++ fraction_text f) × (length (decimal w ++ fraction_text f) ≤ length (decimal w) + 7)
unfolding fraction_text
number_text w zero below small =
    let same : decimal w ++ [] ≡ decimal w = append-nil (decimal w) in
    (inl (subst IsDigits (sym same) (decimal-is_digits w below)), omega (arith, ap length same))
number_text w (suc n) below small =
    let some : 0 < suc n = omega arith in
    let text : fraction_text (suc n) ≡ 46 ∷ decimals 6 (suc n) = fraction_text-pos (suc n) some in
    let (digits, short) = decimals_are 6 (suc n) small in (
      inr (decimal w, decimals 6 (suc n), decimal-is_digits w below, digits_of (decimals 6 (suc n)) (starts 6 (suc n) small some) digits, ap (λ xs. decimal w ++ xs) text),
      omega (arith, length-append (decimal w) (fraction_text (suc n)), ap length text, short),
    )

printed_number : (n : ℕ) → n ≤ most_millionths → IsNumber (printed (Num (pos n))) × (length (printed (Num (pos n))) ≤ most_token_bytes)
unfolding printed
printed_number n small =
    let plain : is_negative (pos n) ≡ false = grind (arith, nat_tests) in
    let text : printed (Num (pos n)) ≡ decimal (n / unit) ++ fraction_text (n % unit) = ap (λ b. (if b then codes "-" else []) ++ decimal (n / unit) ++ fraction_text (n % unit)) plain in
    let wide : n / unit < 2 ^ 64 = omega arith in
    let (number, size) = number_text (n / unit) (n % unit) wide (omega arith) in
    let whole : length (decimal (n / unit)) ≤ 19 = length-decimal-le 19 (n / unit) (omega arith) (omega arith) wide in
    (subst IsNumber (sym text) number, omega (arith, ap length text, size, whole))

pub printed_is : (z : ℤ) → is_negative z ≡ false → IsInRange z → IsNumber (printed (Num z)) × (length (printed (Num z)) ≤ most_token_bytes)
printed_is (pos n) plain within = printed_number n within
printed_is (negsuc n) plain within = cc

-- One after another.

-- before an item that isn't the first
pub further : (i : ℕ) → (i ≡ 0 → ⊥) → separator i ≡ sign_token (codes ",") ∷ []
further i other = ap (λ b. if b then [] else sign_token (codes ",") ∷ []) (ne_eqb i 0 other)

listed_more : {X : Type 0} (f : X → List Spelling) (xs : List X) (i : ℕ) (d : X) → i < length xs → listed_spelled f (take (i + 1) xs) ≡ listed_spelled f (take i xs) ++ (separator i ++ f (get_or xs i d))
listed_more f [] i d within = absurd (omega (arith, within))
listed_more f (x ∷ xs) zero d within = append-nil (f x)
listed_more f (x ∷ xs) (suc i) d within =
    let there : i < length xs = omega (arith, within) in
    let rest : flat_map (next_spelled f) (take (i + 1) xs) ≡ flat_map (next_spelled f) (take i xs) ++ next_spelled f (get_or xs i d) =
    ap (flat_map (next_spelled f)) (take_more xs i d there) ∙ flat_map-append (next_spelled f) (take i xs) (get_or xs i d ∷ []) ∙ ap (λ l. flat_map (next_spelled f) (take i xs) ++ l) (append-nil (next_spelled f (get_or xs i d))) in
    let longer : suc i + 1 ≡ suc (i + 1) = omega arith in
    let between : separator (suc i) ≡ sign_token (codes ",") ∷ [] = further (suc i) (λ e. omega (arith, e)) in
    ap (λ n. listed_spelled f (take n (x ∷ xs))) longer ∙ ap (λ l. f x ++ l) rest ∙ sym (append_assoc (f x) (flat_map (next_spelled f) (take i xs)) (next_spelled f (get_or xs i d)))
    ∙ ap (λ l. listed_spelled f (take (suc i) (x ∷ xs)) ++ (l ++ f (get_or xs i d))) (sym between)

-- one more item of a list, behind what separates it from those before
pub adds_item : {X : Type 0} (f : X → List Spelling) (old a b c : List ℕ) (xs : List X) (i : ℕ) (x : X) → i < length xs → x ≡ get_or xs i x
    → Spaces old a (listed_spelled f (take i xs)) → Spaces a b (separator i) → Spaces b c (f x) → Spaces old c (listed_spelled f (take (i + 1) xs))
adds_item f old a b c xs i x within is before comma item =
    let more : listed_spelled f (take i xs) ++ (separator i ++ f x) ≡ listed_spelled f (take (i + 1) xs) =
    ap (λ y. listed_spelled f (take i xs) ++ (separator i ++ f y)) is ∙ sym (listed_more f xs i x within) in
    subst (Spaces old c) more
    (spaces-both old a c (listed_spelled f (take i xs)) (separator i ++ f x) before (spaces-both a b c (separator i) (f x) comma item))

-- one more line of a list
pub adds_more : {X : Type 0} (f : X → List Spelling) (old between new : List ℕ) (xs : List X) (i : ℕ) (x : X) → i < length xs → x ≡ get_or xs i x
    → Writes old between (flat_map f (take i xs)) → Writes between new (f x) → Writes old new (flat_map f (take (i + 1) xs))
adds_more f old between new xs i x within is first second = writes-more f old between new xs i x within first (subst (λ y. Writes between new (f y)) is second)

-- one element of an area, and several
pub one_element : (list : List (List ℕ)) (x : List ℕ) → 1 ≤ length list → length list ≤ 1 → x ≡ get_or list 0 x → elements_spelled list ≡ name_spelled x
one_element [] x some few is = absurd (omega (arith, some))
one_element (element ∷ []) x some few is = ap name_spelled (sym is)
one_element (element ∷ second ∷ rest) x some few is = absurd (omega (arith, few))

pub several_elements : (list : List (List ℕ)) → 2 ≤ length list → sign_token (codes "{") ∷ (listed_spelled name_spelled list ++ sign_token (codes "}") ∷ []) ≡ elements_spelled list
several_elements [] many = absurd (omega (arith, many))
several_elements (element ∷ []) many = absurd (omega (arith, many))
several_elements (first ∷ second ∷ rest) many = refl
