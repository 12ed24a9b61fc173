-- The readers of a file's signs are exact.
use Rattle.std.proofs.Common.{◌≡◌, ℕ, List, [], ◌∷◌, Option, Some, None, Bool, true, false, ◌++◌, inl, inr, append_assoc, codes, refl, ap, subst, ◌==◌, ◌∙◌, if◌then◌else◌}
use Rattle.cube_lex.specs.Lexeme.{Lexeme}
use Rattle.cube_lex.specs.Positions.{position_of}
use Rattle.cube_lex.specs.Quoted.{unquoted}
use Rattle.cube_lex.specs.declared.token.Kind.{Kind}
use Rattle.cube_lex.specs.declared.token.Kind.TheVariants as kinds
use Rattle.grammar.specs.Grammar.{Grammar, done, one, both, either}
use Rattle.grammar.specs.Reading.{starts, take_one}
use Rattle.grammar.specs.Tokens.{word, is_text, is_text_kind, is_word, is_word_kind}
use Rattle.grammar.proofs.Exact.{Exact, Always, Not, exact_before, exact_gives, exact_one, exact_then}
use Rattle.grammar.proofs.Begins.{Begins, begins_both, begins_one, exact_or, exact_option, starts_text}
use Rattle.grammar.proofs.Tokens.{and_is, exact_word, sample_of, when_picks, word_begins}
use Rattle.std.specs.Str.{str_eq_ignore_ascii_case}
use Rattle.std.proofs.lemmas.Bool.{eqb-true}
use Rattle.user_text.specs.Counting.{count, counting}
use Rattle.cube_fixed.specs.Text.{decimal_point}
use Rattle.user_text.specs.FileSigns.{comma, tab, sign_in, sign_text, sign_but, given_separator, separator, given_decimal, decimal_by, decimal}
use Rattle.user_text.specs.Readers.Reading.{read_given_separator, read_separator, read_given_decimal, read_sign_by, read_decimal}

-- ---- columns

text_alone : (b : Bool) (o : Option ℕ) (byte : ℕ) → (if b then o else None) ≡ Some byte → b ≡ true
text_alone true o byte e = refl
text_alone false o byte e = cc

-- a sign of a file is a quoted text
sign_begins_text : Begins (one sign_text) is_text true
sign_begins_text = begins_one sign_text is_text true (λ t byte e. text_alone (is_text_kind t.kind) (sign_in (unquoted t.piece)) byte e)

no_text : (k : Kind) → is_word_kind k ≡ true → is_text_kind k ≡ false
no_text kinds.Word e = refl
no_text kinds.Number e = cc
no_text kinds.Text e = cc
no_text kinds.Sign e = cc

-- a word is no quoted text
pub word_no_text : (a : List ℕ) → Begins (one (word a)) is_text false
word_no_text a = begins_one (word a) is_text false (λ t place e.
    no_text t.kind (and_is (is_word_kind t.kind) (str_eq_ignore_ascii_case t.piece a) (when_picks (is_word a) position_of t place e).0).0)

-- `';'`
exact_sign_text : Exact counting (one sign_text) (one sign_text) (take_one count sign_text) Always
exact_sign_text = exact_one count sign_text (sample_of kinds.Text (39 ∷ 59 ∷ 39 ∷ [])) 59 refl

given_separator_exact : Exact counting given_separator given_separator read_given_separator Always
unfolding read_given_separator
given_separator_exact = exact_or is_text sign_begins_text (begins_both (word_no_text (codes "TAB")))
    exact_sign_text
    (exact_then (exact_word count (codes "TAB")) (λ _. exact_gives counting tab))

-- `SEPARATOR ( Text | TAB )`
abbrev pub said_separator : Grammar Lexeme ℕ
said_separator = both (one (word (codes "SEPARATOR"))) (λ _. given_separator)

pub separator_exact : Exact counting separator separator read_separator (Not (is_word (codes "SEPARATOR")))
unfolding read_separator
separator_exact = exact_option (is_word (codes "SEPARATOR")) comma (begins_both (word_begins (codes "SEPARATOR") (codes "SEPARATOR"))) (exact_then (exact_word count (codes "SEPARATOR")) (λ _. given_separator_exact))

-- ---- decimals

-- a sign other than this one: `;`, or `:` where that is `;`
abbrev free : Bool → ℕ
free true = 58
free false = 59

abbrev free_text : Bool → Lexeme
free_text same = sample_of kinds.Text (39 ∷ free same ∷ 39 ∷ [])

free_fits : (taken : ℕ) (same : Bool) → 59 == taken ≡ same → sign_but taken (free_text same) ≡ Some (free same)
free_fits taken true is =
    let semicolon : 59 ≡ taken = eqb-true 59 taken is in
    rw (← semicolon) refl
free_fits taken false is = ap (λ b. if b then None else Some 59) is

exact_sign_but : (taken : ℕ) → Exact counting (one (sign_but taken)) (one (sign_but taken)) (take_one count (sign_but taken)) Always
exact_sign_but taken = exact_one count (sign_but taken) (free_text (59 == taken)) (free (59 == taken)) (free_fits taken (59 == taken) refl)

given_decimal_exact : (byte : ℕ) → Exact counting (given_decimal byte) (given_decimal byte) (read_given_decimal byte) Always
unfolding read_given_decimal
given_decimal_exact byte = exact_then (exact_word count (codes "DECIMAL")) (λ _. exact_sign_but byte)

pub decimal_begins : (byte : ℕ) (other : List ℕ) → Begins (given_decimal byte) (is_word other) (str_eq_ignore_ascii_case (codes "DECIMAL") other)
decimal_begins byte other = begins_both (word_begins (codes "DECIMAL") other)

decimal_by_exact : (needed : Bool) (byte : ℕ) → Exact counting (decimal_by needed byte) (decimal_by needed byte) (read_sign_by needed byte) (Not (is_word (codes "DECIMAL")))
unfolding read_sign_by
decimal_by_exact true byte = exact_before (λ rest stops. tt) (given_decimal_exact byte)
decimal_by_exact false byte = exact_option (is_word (codes "DECIMAL")) decimal_point (decimal_begins byte (codes "DECIMAL")) (given_decimal_exact byte)

pub decimal_exact : (byte : ℕ) → Exact counting (decimal byte) (decimal byte) (read_decimal byte) (Not (is_word (codes "DECIMAL")))
unfolding read_decimal
decimal_exact byte = decimal_by_exact (byte == decimal_point) byte

-- ---- what doesn't begin so, before what doesn't

pub record Passed {T A : Type 0} (p : T → Bool) (G : Grammar T A) : Type 0 where
  pub at : (u : List T) (a : A) (rest : List T) → G u a → Not p rest → Not p (u ++ rest)

pub passed_done : {T A : Type 0} {x : A} {p : T → Bool} → Passed p (done x)
passed_done {p = p} = record { at = λ u a rest h stops. ap (λ y. starts p (y ++ rest)) h.0 ∙ stops }

pub passed_begun : {T A : Type 0} {G : Grammar T A} {p : T → Bool} → Begins G p false → Passed p G
passed_begun begins = record { at = λ u a rest h stops. starts_text begins u a rest h }

passed_option_at : {T A : Type 0} {G : Grammar T A} {x : A} (p : T → Bool) → Begins G p false → (u : List T) (a : A) (rest : List T) → either G (done x) u a → Not p rest → Not p (u ++ rest)
passed_option_at p begins u a rest (inl h) stops = starts_text begins u a rest h
passed_option_at p begins u a rest (inr h) stops = ap (λ y. starts p (y ++ rest)) h.0 ∙ stops

pub passed_option : {T A : Type 0} {G : Grammar T A} {x : A} {p : T → Bool} → Begins G p false → Passed p (either G (done x))
passed_option {p = p} begins = record { at = passed_option_at p begins }

passed_both_at : {T A B : Type 0} {G : Grammar T A} {K : A → Grammar T B} (p : T → Bool) → Passed p G → ((a : A) → Passed p (K a)) → (u : List T) (b : B) (rest : List T) → both G K u b → Not p rest → Not p (u ++ rest)
passed_both_at p front next u b rest (v, w, a, parts, h, k) stops =
    ap (λ y. starts p (y ++ rest)) parts ∙ ap (starts p) (append_assoc v w rest) ∙ front.at v a (w ++ rest) h ((next a).at w b rest k stops)

pub passed_both : {T A B : Type 0} {G : Grammar T A} {K : A → Grammar T B} {p : T → Bool} → Passed p G → ((a : A) → Passed p (K a)) → Passed p (both G K)
passed_both {p = p} front next = record { at = passed_both_at p front next }

passed_decimal_by : (needed : Bool) (byte : ℕ) (other : List ℕ) → str_eq_ignore_ascii_case (codes "DECIMAL") other ≡ false → Passed (is_word other) (decimal_by needed byte)
passed_decimal_by true byte other differs = passed_begun (subst (Begins (given_decimal byte) (is_word other)) differs (decimal_begins byte other))
passed_decimal_by false byte other differs = passed_option (subst (Begins (given_decimal byte) (is_word other)) differs (decimal_begins byte other))

-- decimals begin with no other word
pub passed_decimal : (byte : ℕ) (other : List ℕ) → str_eq_ignore_ascii_case (codes "DECIMAL") other ≡ false → Passed (is_word other) (decimal byte)
passed_decimal byte other differs = passed_decimal_by (byte == decimal_point) byte other differs
