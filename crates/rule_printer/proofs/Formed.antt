-- What is read of tokens of a text can be written: grammars whose texts, where each token is one of a text, have only such trees.
use Rattle.std.proofs.Common.{◌≡◌, ◌≤◌, ◌<◌, ◌==◌, ℕ, ℤ, pos, List, [], ◌∷◌, ◌++◌, length, length-append, drop, Bool, true, false, not, ◌&&◌, ◌||◌, nat_le, if◌then◌else◌, Some, None, ◌⊎◌, inl, inr, refl, sym, ap, ◌∙◌, subst, arith, All}
use Rattle.std.proofs.lemmas.Bool.{leb-true, le-leb, and_parts, and_from, or_cases, eqb-true, agree_below_at}
use Rattle.std.proofs.lemmas.List.Elements.{All-head, All-tail}
use Rattle.std.specs.Char.{is_ascii_digit, to_ascii_uppercase}
use Rattle.std.specs.Int.{is_in_range, is_negative}
use Rattle.std.specs.List.{list_all}
use Rattle.std.specs.Str.Parse.{starts_with_minus}
use Rattle.cube_fixed.specs.Text.{decimal_point, number_with, number_of, number_after_sign, signed, is_decimal, decimal_value}
use Rattle.cube_lex.specs.Bytes.{is_quote, is_plain, starts_word, is_word_byte}
use Rattle.cube_lex.specs.Lexed.{IsWellFormed}
use Rattle.cube_lex.specs.Lexeme.{Lexeme}
use Rattle.cube_lex.specs.Parts.{IsToken, IsWord, IsDigits, IsNumber, IsQuoted, most_token_bytes}
use Rattle.cube_lex.specs.Quoted.{doubled, quoted, unquoted}
use Rattle.cube_lex.specs.declared.token.Kind.{Kind}
use Rattle.cube_lex.specs.declared.token.Kind.TheVariants as kinds
use Rattle.cube_lex.proofs.Quotes.{unquoted-quoted}
use Rattle.grammar.specs.Grammar.{Grammar, many}
use Rattle.grammar.proofs.Kept.{Keeps, keeps_many}
use Rattle.grammar.specs.Tokens.{is_word_kind, is_text_kind, is_number_kind, capitals}
use Rattle.rule_printer.specs.Spelled.{is_word_text}
use Rattle.rule_printer.specs.Writable.{is_quotable, is_short_word, is_marked}
use Rattle.cube_fixed.proofs.RoundTrip.{not_minus as digit_no_minus, not_negative as pos_plain}

-- each of several passes a test
all_pass : {A : Type 0} (p : A → Bool) (list : List A) → All (λ a. p a ≡ true) list → list_all p list ≡ true
all_pass p [] all = refl
all_pass p (a ∷ list) all =
    and_from (p a) (list_all p list) (All-head (λ x. p x ≡ true) a list all) (all_pass p list (All-tail (λ x. p x ≡ true) a list all))

pub keeps_all : {A : Type 0} {G : Grammar Lexeme A} (p : A → Bool) → Keeps G (λ a. p a ≡ true) → Keeps (many G) (λ list. list_all p list ≡ true)
keeps_all p g = record { at = λ u list formed h. all_pass p list ((keeps_many g).at u list formed h) }

-- Quoted texts.

longer : (bytes : List ℕ) → length bytes ≤ length (doubled bytes)
longer [] = omega arith
longer (b ∷ bytes) = by (is_quote b) (longer bytes) where
  by : (q : Bool) → length bytes ≤ length (doubled bytes) → length (b ∷ bytes) ≤ length ((if q then b ∷ b ∷ [] else b ∷ []) ++ doubled bytes)
  by true below = omega (arith, below)
  by false below = omega (arith, below)

shorter : (bytes : List ℕ) → length bytes ≤ length (quoted bytes)
shorter bytes = omega (arith, longer bytes, length-append (doubled bytes) (39 ∷ []))

quoted_quotable : (piece : List ℕ) → IsQuoted piece → length piece ≤ most_token_bytes → is_quotable (unquoted piece) ≡ true
unfolding is_quotable
quoted_quotable piece (bytes, plain, is) short =
    let same : unquoted piece ≡ bytes = ap unquoted is ∙ unquoted-quoted bytes in
    let fits : length (quoted bytes) ≤ most_token_bytes = subst (λ x. length x ≤ most_token_bytes) is short in
    subst (λ b. (list_all is_plain b && nat_le (length (quoted b)) most_token_bytes) ≡ true) (sym same) (and_from _ _ plain (le-leb (length (quoted bytes)) most_token_bytes fits))

text_quotable : (kind : Kind) (piece : List ℕ) → is_text_kind kind ≡ true → IsToken kind piece × (length piece ≤ most_token_bytes) → is_quotable (unquoted piece) ≡ true
text_quotable kinds.Word piece e h = cc
text_quotable kinds.Number piece e h = cc
text_quotable kinds.Text piece e h = quoted_quotable piece h.0 h.1
text_quotable kinds.Sign piece e h = cc

-- a quoted text of a text
pub formed_text : (t : Lexeme) (bytes : List ℕ) → IsWellFormed t → is_text_kind t.kind ≡ true → unquoted t.piece ≡ bytes → is_quotable bytes ≡ true
formed_text t bytes formed kind same = subst (λ b. is_quotable b ≡ true) same (text_quotable t.kind t.piece kind formed)

-- Words.

word_text : (bytes : List ℕ) → IsWord bytes → is_word_text bytes ≡ true
word_text [] is = absurd is
word_text (b ∷ bytes) is = and_from (starts_word b) (list_all is_word_byte bytes) is.0 is.1

word_short : (kind : Kind) (piece : List ℕ) → is_word_kind kind ≡ true → IsToken kind piece × (length piece ≤ most_token_bytes) → (is_word_text piece ≡ true) × (length piece ≤ most_token_bytes)
word_short kinds.Word piece e h = (word_text piece h.0, h.1)
word_short kinds.Number piece e h = cc
word_short kinds.Text piece e h = cc
word_short kinds.Sign piece e h = cc

short_from : (bytes : List ℕ) → is_word_text bytes ≡ true → length bytes ≤ most_token_bytes → is_short_word bytes ≡ true
unfolding is_short_word
short_from bytes is short = and_from (is_word_text bytes) _ is (le-leb (length bytes) most_token_bytes short)

-- the name of a dimension behind a `!`, from a word and from a quoted text
pub formed_word_name : (t : Lexeme) (dim : List ℕ) → IsWellFormed t → is_word_kind t.kind ≡ true → t.piece ≡ dim → is_marked dim ≡ true
formed_word_name t dim formed kind same =
    let (is, short) = word_short t.kind t.piece kind formed in
    let word : is_word_text dim ≡ true = ap is_word_text (sym same) ∙ is in
    let fits : is_short_word dim ≡ true = short_from dim word (subst (λ b. length b ≤ most_token_bytes) same short) in
    rw word fits

quotable_length : (bytes : List ℕ) → is_quotable bytes ≡ true → length bytes ≤ most_token_bytes
unfolding is_quotable
quotable_length bytes is = omega (arith, shorter bytes, leb-true _ _ (and_parts (list_all is_plain bytes) (nat_le (length (quoted bytes)) most_token_bytes) is).1)

marked_either : (dim : List ℕ) (b : Bool) → is_word_text dim ≡ b → is_quotable dim ≡ true → (if b then is_short_word dim else is_quotable dim) ≡ true
marked_either dim true word is = short_from dim word (quotable_length dim is)
marked_either dim false word is = is

pub formed_marked : (t : Lexeme) (dim : List ℕ) → IsWellFormed t → is_text_kind t.kind ≡ true → unquoted t.piece ≡ dim → is_marked dim ≡ true
formed_marked t dim formed kind same = marked_either dim (is_word_text dim) refl (formed_text t dim formed kind same)

-- Capitals of a word are a word.

up_to : (low high b : ℕ) → is_in_range low high b ≡ true → b ≤ high
up_to low high b is = leb-true b high (and_parts (nat_le low b) (nat_le b high) is).1

word_byte_small : (b : ℕ) → is_word_byte b ≡ true → b < 128
word_byte_small b is = by (or_cases ((is_in_range 48 57 b || is_in_range 65 90 b) || is_in_range 97 122 b) (b == 95) is) where
  by_two : (is_in_range 48 57 b ≡ true) ⊎ (is_in_range 65 90 b ≡ true) → b < 128
  by_two (inl h) = omega (arith, up_to 48 57 b h)
  by_two (inr h) = omega (arith, up_to 65 90 b h)

  by_three : ((is_in_range 48 57 b || is_in_range 65 90 b) ≡ true) ⊎ (is_in_range 97 122 b ≡ true) → b < 128
  by_three (inl h) = by_two (or_cases (is_in_range 48 57 b) (is_in_range 65 90 b) h)
  by_three (inr h) = omega (arith, up_to 97 122 b h)

  by : (((is_in_range 48 57 b || is_in_range 65 90 b) || is_in_range 97 122 b) ≡ true) ⊎ ((b == 95) ≡ true) → b < 128
  by (inl h) = by_three (or_cases (is_in_range 48 57 b || is_in_range 65 90 b) (is_in_range 97 122 b) h)
  by (inr h) = omega (arith, eqb-true b 95 h)

starting_small : (b : ℕ) → starts_word b ≡ true → b < 128
starting_small b is = by (or_cases (is_in_range 65 90 b || is_in_range 97 122 b) (b == 95) is) where
  by_two : (is_in_range 65 90 b ≡ true) ⊎ (is_in_range 97 122 b ≡ true) → b < 128
  by_two (inl h) = omega (arith, up_to 65 90 b h)
  by_two (inr h) = omega (arith, up_to 97 122 b h)

  by : ((is_in_range 65 90 b || is_in_range 97 122 b) ≡ true) ⊎ ((b == 95) ≡ true) → b < 128
  by (inl h) = by_two (or_cases (is_in_range 65 90 b) (is_in_range 97 122 b) h)
  by (inr h) = omega (arith, eqb-true b 95 h)

either_passes : (a b : Bool) → a ≡ true → (not a || b) ≡ true → b ≡ true
either_passes true b is h = h
either_passes false b is h = cc

capital_byte : (b : ℕ) → is_word_byte b ≡ true → is_word_byte (to_ascii_uppercase b) ≡ true
capital_byte b is = either_passes (is_word_byte b) (is_word_byte (to_ascii_uppercase b)) is (agree_below_at (λ c. not (is_word_byte c) || is_word_byte (to_ascii_uppercase c)) (λ _. true) 128 b refl (word_byte_small b is))

capital_start : (b : ℕ) → starts_word b ≡ true → starts_word (to_ascii_uppercase b) ≡ true
capital_start b is = either_passes (starts_word b) (starts_word (to_ascii_uppercase b)) is (agree_below_at (λ c. not (starts_word c) || starts_word (to_ascii_uppercase c)) (λ _. true) 128 b refl (starting_small b is))

capital_bytes : (bytes : List ℕ) → list_all is_word_byte bytes ≡ true → list_all is_word_byte (capitals bytes) ≡ true
capital_bytes [] is = refl
capital_bytes (b ∷ bytes) is = let (here, more) = and_parts (is_word_byte b) (list_all is_word_byte bytes) is in and_from _ _ (capital_byte b here) (capital_bytes bytes more)

capital_word_text : (bytes : List ℕ) → is_word_text bytes ≡ true → is_word_text (capitals bytes) ≡ true
capital_word_text [] is = cc
capital_word_text (b ∷ bytes) is = let (here, more) = and_parts (starts_word b) (list_all is_word_byte bytes) is in and_from _ _ (capital_start b here) (capital_bytes bytes more)

same_length : (bytes : List ℕ) → length (capitals bytes) ≡ length bytes
same_length [] = refl
same_length (b ∷ bytes) = omega (arith, same_length bytes)

pub formed_function : (t : Lexeme) (function : List ℕ) → IsWellFormed t → is_word_kind t.kind ≡ true → capitals t.piece ≡ function → is_short_word function ≡ true
formed_function t function formed kind same =
    let (is, short) = word_short t.kind t.piece kind formed in
    subst (λ f. is_short_word f ≡ true) same (short_from (capitals t.piece) (capital_word_text t.piece is) (omega (arith, same_length t.piece, short)))

-- Numbers.

begins_digit : (b : ℕ) (bytes rest : List ℕ) → IsDigits bytes → b ∷ rest ≡ bytes → (b == 45) ≡ false
begins_digit b [] rest is same = absurd is
begins_digit b (c ∷ bytes) rest is same = let here : b ≡ c = cc in ap (λ x. x == 45) here ∙ digit_no_minus c (and_parts (is_ascii_digit c) (list_all is_ascii_digit bytes) is).0

begins_whole : (b : ℕ) (whole more rest : List ℕ) → IsDigits whole → b ∷ rest ≡ whole ++ more → (b == 45) ≡ false
begins_whole b [] more rest is same = absurd is
begins_whole b (c ∷ whole) more rest is same = let here : b ≡ c = cc in ap (λ x. x == 45) here ∙ digit_no_minus c (and_parts (is_ascii_digit c) (list_all is_ascii_digit whole) is).0

number_no_minus : (b : ℕ) (rest : List ℕ) → IsNumber (b ∷ rest) → (b == 45) ≡ false
number_no_minus b rest (inl digits) = begins_digit b (b ∷ rest) rest digits refl
number_no_minus b rest (inr (whole, fraction, is, _, same)) = begins_whole b whole (46 ∷ fraction) rest is same

no_minus : (piece : List ℕ) → IsNumber piece → starts_with_minus piece ≡ false
no_minus [] (inl digits) = absurd digits
no_minus [] (inr (whole, fraction, is, _, same)) = absurd (empty whole is same) where
  empty : (whole : List ℕ) → IsDigits whole → [] ≡ whole ++ 46 ∷ fraction → ⊥
  empty [] is same = is
  empty (c ∷ whole) is same = cc
no_minus (b ∷ rest) is = number_no_minus b rest is

after_plain : (text : List ℕ) (z : ℤ) (b : Bool) → is_decimal decimal_point text ≡ b → (if b then Some (signed false (decimal_value decimal_point text)) else None) ≡ Some z → is_negative z ≡ false
after_plain text z true is e = let same : pos (decimal_value decimal_point text) ≡ z = cc in subst (λ y. is_negative y ≡ false) same (pos_plain (decimal_value decimal_point text))
after_plain text z false is e = cc

plain_number : (piece : List ℕ) (z : ℤ) → IsNumber piece → number_of piece ≡ Some z → is_negative z ≡ false
unfolding number_with
plain_number piece z is e =
    let says : number_after_sign decimal_point false piece ≡ Some z = sym (ap (λ b. if b then number_after_sign decimal_point true (drop 1 piece) else number_after_sign decimal_point false piece) (no_minus piece is)) ∙ e in
    after_plain piece z (is_decimal decimal_point piece) refl says

number_kind : (kind : Kind) (piece : List ℕ) → is_number_kind kind ≡ true → IsToken kind piece × (length piece ≤ most_token_bytes) → IsNumber piece
number_kind kinds.Word piece e h = cc
number_kind kinds.Number piece e h = h.0
number_kind kinds.Text piece e h = cc
number_kind kinds.Sign piece e h = cc

pub formed_number : (t : Lexeme) (z : ℤ) → IsWellFormed t → is_number_kind t.kind ≡ true → number_of t.piece ≡ Some z → is_negative z ≡ false
formed_number t z formed kind says = plain_number t.piece z (number_kind t.kind t.piece kind formed) says
