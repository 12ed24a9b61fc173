-- Which picks exclude one another, and the readers of one token.
use Rattle.std.proofs.Common.{◌≡◌, ◌<◌, ℕ, zero, suc, slice_index, arith, List, [], ◌∷◌, ℤ, pos, Option, Some, None, Bool, true, false, ◌&&◌, ◌||◌, if◌then◌else◌, refl, sym, ◌∙◌, ap, Result}
use Rattle.std.specs.Str.{bytes_eq, str_eq_ignore_ascii_case, str_to_ascii_lowercase}
use Rattle.std.proofs.lemmas.Slice.Eq.{bytes_eq-Decides}
use Rattle.cube_lex.specs.Lexeme.{Lexeme}
use Rattle.cube_lex.specs.Positions.{nowhere, position_of}
use Rattle.cube_lex.specs.declared.token.Kind.{Kind}
use Rattle.cube_lex.specs.declared.token.Kind.TheVariants as kinds
use Rattle.grammar.specs.Grammar.{Grammar, one}
use Rattle.grammar.specs.Watch.{each_token}
use Rattle.grammar.specs.Reading.{take_one}
use Rattle.cube_lex.specs.Quoted.{unquoted}
use Rattle.cube_lex.specs.declared.position.Position.{Position}
use Rattle.dim_name.specs.Name.{is_name}
use Rattle.std.specs.Str.Parse.{digits_value}
use Rattle.cube_fixed.specs.Text.{number_with, number_of, reading_of}
use Rattle.std.specs.Result.{result_ok}
use Rattle.std.proofs.lemmas.Str.{IsUtf8-from_ascii, is_utf8-from_IsUtf8}
use Rattle.grammar.specs.Tokens.{is_sign_kind, is_word_kind, is_text_kind, is_number_kind, is_sign, is_word, is_whole, is_file, when, sign, word, text, name, whole, money, file, any_word, capitals, capital_word}
use Rattle.grammar.proofs.Exact.{Exact, Always, exact_one}
use Rattle.grammar.proofs.Begins.{Begins, begins_one}
pub use Rattle.std.proofs.lemmas.Bool.{and_parts as and_is}
use Rattle.std.proofs.lemmas.Bool.{or_left as first_of_two, or_right as second_of_two}

if_some : {A : Type 0} (b : Bool) (a x : A) → (if b then Some a else None) ≡ Some x → (b ≡ true) × (a ≡ x)
if_some true a x e = (refl, cc)
if_some false a x e = cc

-- what a pick that is a test says
pub when_picks : {T A : Type 0} (p : T → Bool) (value : T → A) (t : T) (x : A) → when p value t ≡ Some x → (p t ≡ true) × (value t ≡ x)
when_picks p value t x e = if_some (p t) (value t) x e

same_bytes : (a b : List ℕ) → bytes_eq a b ≡ true → a ≡ b
same_bytes a b e = (bytes_eq-Decides a b).0 e

pub bytes_eq_self : (a : List ℕ) → bytes_eq a a ≡ true
bytes_eq_self a = (bytes_eq-Decides a a).1 refl

-- a sign that is a is b where a is b
pub sign_tells : (a b : List ℕ) (t : Lexeme) (x : Unit {0}) → sign a t ≡ Some x → is_sign b t ≡ bytes_eq a b
sign_tells a b t x e =
    let (is, _) = when_picks (is_sign a) (λ _. tt) t x e in
    let (kind, bytes) = and_is (is_sign_kind t.kind) (bytes_eq t.piece a) is in
    ap (λ k. k && bytes_eq t.piece b) kind ∙ ap (λ piece. bytes_eq piece b) (same_bytes t.piece a bytes)

pub word_is : (w : List ℕ) (t : Lexeme) → is_word w t ≡ true → word w t ≡ Some (position_of t)
word_is w t is = ap (λ b. if b then Some (position_of t) else None) is

pub word_tells : (a b : List ℕ) (t : Lexeme) (x : Position) → word a t ≡ Some x → is_word b t ≡ str_eq_ignore_ascii_case a b
word_tells a b t x e =
    let (is, _) = when_picks (is_word a) position_of t x e in
    let (kind, bytes) = and_is (is_word_kind t.kind) (str_eq_ignore_ascii_case t.piece a) is in
    ap (λ k. k && str_eq_ignore_ascii_case t.piece b) kind ∙ ap (λ low. bytes_eq low (str_to_ascii_lowercase b)) (same_bytes (str_to_ascii_lowercase t.piece) (str_to_ascii_lowercase a) bytes)

-- The kinds exclude one another.

no_sign : (k : Kind) (b : Bool) → (is_word_kind k || is_text_kind k || is_number_kind k) ≡ true → (is_sign_kind k && b) ≡ false
no_sign kinds.Word b e = refl
no_sign kinds.Number b e = refl
no_sign kinds.Text b e = refl
no_sign kinds.Sign b e = cc

no_word : (k : Kind) (b : Bool) → (is_sign_kind k || is_text_kind k || is_number_kind k) ≡ true → (is_word_kind k && b) ≡ false
no_word kinds.Word b e = cc
no_word kinds.Number b e = refl
no_word kinds.Text b e = refl
no_word kinds.Sign b e = refl

-- what a pick takes is neither a sign nor a word
pub record IsValue {A : Type 0} (pick : Lexeme → Option A) : Type 0 where
  pub kind : (t : Lexeme) (a : A) → pick t ≡ Some a → (is_text_kind t.kind || is_number_kind t.kind) ≡ true

or_is : (a b c : Bool) → (b || c) ≡ true → (a || b || c) ≡ true
or_is true true c e = refl
or_is true false c e = refl
or_is false b c e = e

pub value_no_sign : {A : Type 0} {pick : Lexeme → Option A} → IsValue pick → (b : List ℕ) → Begins (one pick) (is_sign b) false
value_no_sign {pick = pick} is b = begins_one pick (is_sign b) false (λ t a e. no_sign t.kind (bytes_eq t.piece b) (or_is (is_word_kind t.kind) (is_text_kind t.kind) (is_number_kind t.kind) (is.kind t a e)))

pub value_no_word : {A : Type 0} {pick : Lexeme → Option A} → IsValue pick → (b : List ℕ) → Begins (one pick) (is_word b) false
value_no_word {pick = pick} is b = begins_one pick (is_word b) false (λ t a e. no_word t.kind (str_eq_ignore_ascii_case t.piece b) (or_is (is_sign_kind t.kind) (is_text_kind t.kind) (is_number_kind t.kind) (is.kind t a e)))

or_first : (a b c : Bool) → a ≡ true → (a || b || c) ≡ true
or_first true true c e = refl
or_first true false c e = refl
or_first false b c e = cc

pub sign_begins : (a b : List ℕ) → Begins (one (sign a)) (is_sign b) (bytes_eq a b)
sign_begins a b = begins_one (sign a) (is_sign b) (bytes_eq a b) (sign_tells a b)

pub word_begins : (a b : List ℕ) → Begins (one (word a)) (is_word b) (str_eq_ignore_ascii_case a b)
word_begins a b = begins_one (word a) (is_word b) (str_eq_ignore_ascii_case a b) (word_tells a b)

pub sign_no_word : (a b : List ℕ) → Begins (one (sign a)) (is_word b) false
sign_no_word a b = begins_one (sign a) (is_word b) false (λ t x e.
    let (is, _) = when_picks (is_sign a) (λ _. tt) t x e in
    let (kind, _) = and_is (is_sign_kind t.kind) (bytes_eq t.piece a) is in
    no_word t.kind (str_eq_ignore_ascii_case t.piece b) (or_first (is_sign_kind t.kind) (is_text_kind t.kind) (is_number_kind t.kind) kind))

pub word_no_sign : (a b : List ℕ) → Begins (one (word a)) (is_sign b) false
word_no_sign a b = begins_one (word a) (is_sign b) false (λ t x e.
    let (is, _) = when_picks (is_word a) position_of t x e in
    let (kind, _) = and_is (is_word_kind t.kind) (str_eq_ignore_ascii_case t.piece a) is in
    no_sign t.kind (bytes_eq t.piece b) (or_first (is_word_kind t.kind) (is_text_kind t.kind) (is_number_kind t.kind) kind))

begins_any_at : {T A : Type 0} {G : Grammar T A} (p q : T → Bool) (b c : Bool) → Begins G p b → ((u : List T) (a : A) → G u a → (t : T) × (v : List T) × (u ≡ t ∷ v) × (q t ≡ c)) → (u : List T) (a : A) → G u a → (t : T) × (v : List T) × (u ≡ t ∷ v) × ((p t || q t) ≡ (b || c))
begins_any_at p q b c e f u a h =
    let (t, v, is, tells) = e.at u a h in
    let (s, w, is', tells') = f u a h in
    let same : s ≡ t = cc in
    (t, v, is, ap (λ x. x || q t) tells ∙ ap (λ x. b || x) (ap q (sym same) ∙ tells'))

-- one of two tests
pub begins_any : {T A : Type 0} {G : Grammar T A} {p q : T → Bool} {b c : Bool} → Begins G p b → Begins G q c → Begins G (λ t. p t || q t) (b || c)
begins_any {p = p} {q = q} {b = b} {c = c} e f = record { at = begins_any_at p q b c e f.at }

-- One token.

abbrev pub sample_of : Kind → List ℕ → Lexeme
sample_of kind piece = record { kind = kind; piece = piece; start = 0; line = 0 }

abbrev pub sign_of : List ℕ → Lexeme
sign_of piece = sample_of kinds.Sign piece

pub exact_sign : {R C : Type 0} (scan : R → Lexeme → Result R C) (a : List ℕ) → Exact (each_token scan) (one (sign a)) (one (sign a)) (take_one scan (sign a)) Always
exact_sign scan a = exact_one scan (sign a) (sample_of kinds.Sign a) tt (ap (λ b. if b then Some tt else None) (bytes_eq_self a))

pub exact_word : {R C : Type 0} (scan : R → Lexeme → Result R C) (a : List ℕ) → Exact (each_token scan) (one (word a)) (one (word a)) (take_one scan (word a)) Always
exact_word scan a = exact_one scan (word a) (sample_of kinds.Word a) nowhere (ap (λ b. if b then Some nowhere else None) (bytes_eq_self (str_to_ascii_lowercase a)))

-- `'a'`
pub exact_text : {R C : Type 0} (scan : R → Lexeme → Result R C) → Exact (each_token scan) (one text) (one text) (take_one scan text) Always
exact_text scan = exact_one scan text (sample_of kinds.Text (39 ∷ 97 ∷ 39 ∷ [])) (97 ∷ []) refl

pub exact_name : {R C : Type 0} (scan : R → Lexeme → Result R C) → Exact (each_token scan) (one name) (one name) (take_one scan name) Always
exact_name scan = exact_one scan name (sample_of kinds.Text (39 ∷ 97 ∷ 39 ∷ [])) (97 ∷ []) refl

-- `1`
pub exact_whole_number : {R C : Type 0} (scan : R → Lexeme → Result R C) → Exact (each_token scan) (one whole) (one whole) (take_one scan whole) Always
exact_whole_number scan = exact_one scan whole (sample_of kinds.Number (49 ∷ [])) 1 refl

pub text_is_value : IsValue text
text_is_value = record { kind = λ t a e. first_of_two (is_text_kind t.kind) (is_number_kind t.kind) (when_picks (λ t. is_text_kind t.kind) (λ t. unquoted t.piece) t a e).0 }

pub name_is_value : IsValue name
name_is_value = record { kind = λ t a e. first_of_two (is_text_kind t.kind) (is_number_kind t.kind) (and_is (is_text_kind t.kind) (is_name (unquoted t.piece)) (when_picks (λ t. is_text_kind t.kind && is_name (unquoted t.piece)) (λ t. unquoted t.piece) t a e).0).0 }

pub whole_is_value : IsValue whole
whole_is_value = record { kind = λ t a e. second_of_two (is_text_kind t.kind) (is_number_kind t.kind) (and_is (is_number_kind t.kind) (is_whole t.piece) (when_picks (λ t. is_number_kind t.kind && is_whole t.piece) (λ t. digits_value 10 t.piece) t a e).0).0 }

-- `1`
pub exact_money : {R C : Type 0} (scan : R → Lexeme → Result R C) → Exact (each_token scan) (one money) (one money) (take_one scan money) Always
unfolding number_with
exact_money scan = exact_one scan money (sample_of kinds.Number (49 ∷ [])) (pos 1000000) refl

pub one_ascii : (i : ℕ) → slice_index (97 ∷ []) i < 128
one_ascii zero = omega arith
one_ascii (suc i) = omega arith

-- `'a'`
pub exact_file : {R C : Type 0} (scan : R → Lexeme → Result R C) → Exact (each_token scan) (one file) (one file) (take_one scan file) Always
exact_file scan = exact_one scan file (sample_of kinds.Text (39 ∷ 97 ∷ 39 ∷ [])) (97 ∷ []) (ap (λ b. if b then Some (97 ∷ []) else None) (is_utf8-from_IsUtf8 (97 ∷ []) (IsUtf8-from_ascii (97 ∷ []) one_ascii)))

-- `A`
pub exact_any_word : {R C : Type 0} (scan : R → Lexeme → Result R C) → Exact (each_token scan) (one any_word) (one any_word) (take_one scan any_word) Always
exact_any_word scan = exact_one scan any_word (sample_of kinds.Word (65 ∷ [])) (65 ∷ []) refl

pub exact_capital_word : {R C : Type 0} (scan : R → Lexeme → Result R C) → Exact (each_token scan) (one capital_word) (one capital_word) (take_one scan capital_word) Always
exact_capital_word scan = exact_one scan capital_word (sample_of kinds.Word (65 ∷ [])) (65 ∷ []) refl

pub money_kind : (b : Bool) (o : Option ℤ) (z : ℤ) → (if b then o else None) ≡ Some z → b ≡ true
money_kind true o z e = refl
money_kind false o z e = cc

pub money_is_value : IsValue money
money_is_value = record { kind = λ t a e. second_of_two (is_text_kind t.kind) (is_number_kind t.kind) (money_kind (is_number_kind t.kind) (result_ok (reading_of (number_of t.piece))) a e) }

pub file_is_value : IsValue file
file_is_value = record { kind = λ t a e. first_of_two (is_text_kind t.kind) (is_number_kind t.kind) (and_is (is_text_kind t.kind) (is_file (unquoted t.piece)) (when_picks (λ t. is_text_kind t.kind && is_file (unquoted t.piece)) (λ t. unquoted t.piece) t a e).0).0 }

-- what a pick takes is a word
pub record TakesWords {A : Type 0} (pick : Lexeme → Option A) : Type 0 where
  pub kind : (t : Lexeme) (a : A) → pick t ≡ Some a → is_word_kind t.kind ≡ true

pub any_word_takes_words : TakesWords any_word
any_word_takes_words = record { kind = λ t a e. (when_picks (λ t. is_word_kind t.kind) (λ t. t.piece) t a e).0 }

pub capital_word_takes_words : TakesWords capital_word
capital_word_takes_words = record { kind = λ t a e. (when_picks (λ t. is_word_kind t.kind) (λ t. capitals t.piece) t a e).0 }

pub words_no_sign : {A : Type 0} {pick : Lexeme → Option A} → TakesWords pick → (b : List ℕ) → Begins (one pick) (is_sign b) false
words_no_sign {pick = pick} is b = begins_one pick (is_sign b) false (λ t a e. no_sign t.kind (bytes_eq t.piece b) (or_first (is_word_kind t.kind) (is_text_kind t.kind) (is_number_kind t.kind) (is.kind t a e)))

-- Whether a quoted text comes.

kind_of : (k : Kind) → (is_sign_kind k || is_number_kind k) ≡ true → is_text_kind k ≡ false
kind_of kinds.Word e = refl
kind_of kinds.Number e = refl
kind_of kinds.Text e = cc
kind_of kinds.Sign e = refl

pub text_begins : Begins (one text) (λ t. is_text_kind t.kind) true
text_begins = begins_one text (λ t. is_text_kind t.kind) true (λ t a e. (when_picks (λ t. is_text_kind t.kind) (λ t. unquoted t.piece) t a e).0)

pub sign_no_text : (a : List ℕ) → Begins (one (sign a)) (λ t. is_text_kind t.kind) false
sign_no_text a = begins_one (sign a) (λ t. is_text_kind t.kind) false (λ t x e.
    kind_of t.kind (first_of_two (is_sign_kind t.kind) (is_number_kind t.kind) (and_is (is_sign_kind t.kind) (bytes_eq t.piece a) (when_picks (is_sign a) (λ _. tt) t x e).0).0))

pub money_no_text : Begins (one money) (λ t. is_text_kind t.kind) false
money_no_text = begins_one money (λ t. is_text_kind t.kind) false (λ t a e.
    kind_of t.kind (second_of_two (is_sign_kind t.kind) (is_number_kind t.kind) (money_kind (is_number_kind t.kind) (result_ok (reading_of (number_of t.piece))) a e)))
