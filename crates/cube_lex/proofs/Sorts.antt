-- The first byte of a part tells what it is.
use Rattle.std.proofs.Common.{◌<◌, length, get_or, ◌≡◌, ℕ, ◌≤◌, Bool, true, false, cond, ◌||◌, ◌==◌, List, [], ◌∷◌, ◌++◌, refl, sym, ap, ◌∙◌, subst, eqb-true, Some, None, Option, arith, inl, inr, ◌⊎◌}
use Rattle.std.proofs.lemmas.Bool.{leb-true, or_cases as either}
use Rattle.std.specs.Char.{is_ascii_digit}
use Rattle.std.specs.Int.{is_in_range}
use Rattle.std.specs.List.{list_all, Contains}
use Rattle.cube_lex.specs.Fault.{BeginsPart, BeginsNothing}
use Rattle.cube_lex.specs.Inside.Front.{IsSignLen}
use Rattle.cube_lex.specs.Bytes.{is_white, is_quote, starts_word}
use Rattle.cube_lex.specs.Parts.{IsWord, IsNumber, IsDigits, IsQuoted, IsToken, IsSpace, IsComment, IsLongest, Stands, IsPart, signs}
use Rattle.cube_lex.specs.declared.token.Kind.{Kind}
use Rattle.cube_lex.specs.declared.token.Kind.TheVariants.{Word, Number, Text, Sign}
use Rattle.cube_lex.proofs.Runs.{both, false-of}
use Rattle.cube_lex.proofs.SignTable.{contains-passes}

-- what a part is
pub data Sort : Type 0 where
  a_space : Sort
  a_comment : Sort
  a_word : Sort
  a_number : Sort
  a_text : Sort
  a_sign : Sort

-- what the byte would begin
abbrev pub sort_of : ℕ → Sort
sort_of b = cond (is_white b) a_space (cond (b == 35) a_comment (cond (starts_word b) a_word (cond (is_ascii_digit b) a_number (cond (is_quote b) a_text a_sign))))

abbrev pub kind_of : Sort → Option Kind
kind_of a_space = None
kind_of a_comment = None
kind_of a_word = Some Word
kind_of a_number = Some Number
kind_of a_text = Some Text
kind_of a_sign = Some Sign

abbrev pub IsOf : Sort → List ℕ → Type 0
IsOf a_space = IsSpace
IsOf a_comment = IsComment
IsOf a_word = IsWord
IsOf a_number = IsNumber
IsOf a_text = IsQuoted
IsOf a_sign = Contains signs

abbrev pub StandsAs : Sort → List ℕ → List ℕ → Type 0
StandsAs a_space = IsLongest IsSpace
StandsAs a_comment = IsLongest IsComment
StandsAs a_word = Stands Word
StandsAs a_number = Stands Number
StandsAs a_text = Stands Text
StandsAs a_sign = Stands Sign

-- white space begins no word
white-values : (b : ℕ) → is_white b ≡ true → (b ≡ 32) ⊎ (b ≡ 9) ⊎ (b ≡ 13) ⊎ (b ≡ 10)
white-values b e = elim (either _ _ e) [
  | inl h ↦ elim (either _ _ h) [
    | inl k ↦ elim (either _ _ k) [ inl x ↦ inl (eqb-true _ _ x) | inr x ↦ inr (inl (eqb-true _ _ x)) ]
    | inr x ↦ inr (inr (inl (eqb-true _ _ x)))
  ]
  | inr x ↦ inr (inr (inr (eqb-true _ _ x)))
]

pub at-white : (P : ℕ → Type 0) → P 32 → P 9 → P 13 → P 10 → (b : ℕ) → is_white b ≡ true → P b
at-white P at32 at9 at13 at10 b e = elim (white-values b e) [
  | inl x ↦ subst P (sym x) at32
  | inr h ↦ elim h [ inl x ↦ subst P (sym x) at9 | inr k ↦ elim k [ inl x ↦ subst P (sym x) at13 | inr x ↦ subst P (sym x) at10 ] ]
]

in-range : (low high b : ℕ) → is_in_range low high b ≡ true → (low ≤ b) × (b ≤ high)
in-range low high b e = (leb-true _ _ (both _ _ e).0, leb-true _ _ (both _ _ e).1)

digit-no_word : (b : ℕ) → is_ascii_digit b ≡ true → starts_word b ≡ false
digit-no_word b digit = false-of (starts_word b) (λ e. elim (either (is_in_range 65 90 b || is_in_range 97 122 b) (b == 95) e) [
  | inl letter ↦ elim (either (is_in_range 65 90 b) (is_in_range 97 122 b) letter) [
    | inl upper ↦ omega (arith, in-range 48 57 b digit, in-range 65 90 b upper)
    | inr lower ↦ omega (arith, in-range 48 57 b digit, in-range 97 122 b lower)
  ]
  | inr under ↦ omega (arith, in-range 48 57 b digit, eqb-true b 95 under)
])

sort-word : (b : ℕ) → starts_word b ≡ true → sort_of b ≡ a_word
sort-word b e =
    let not_white : is_white b ≡ false = false-of (is_white b) (λ white. at-white (λ c. starts_word c ≡ true → ⊥) (λ h. cc) (λ h. cc) (λ h. cc) (λ h. cc) b white e) in
    let not_hash : (b == 35) ≡ false = false-of (b == 35) (λ hash. (subst (λ c. starts_word c ≡ true → ⊥) (sym (eqb-true b 35 hash)) (λ h. cc)) e) in
    rw (not_white, not_hash, e)

sort-number : (b : ℕ) → is_ascii_digit b ≡ true → sort_of b ≡ a_number
sort-number b e =
    let not_white : is_white b ≡ false = false-of (is_white b) (λ white. at-white (λ c. is_ascii_digit c ≡ true → ⊥) (λ h. cc) (λ h. cc) (λ h. cc) (λ h. cc) b white e) in
    let not_hash : (b == 35) ≡ false = false-of (b == 35) (λ hash. (subst (λ c. is_ascii_digit c ≡ true → ⊥) (sym (eqb-true b 35 hash)) (λ h. cc)) e) in
    rw (not_white, not_hash, digit-no_word b e, e)

abbrev is_sign_sort : Sort → Bool
is_sign_sort a_sign = true
is_sign_sort _ = false

sign-sort : (s : Sort) → is_sign_sort s ≡ true → s ≡ a_sign
sign-sort a_space e = absurd (cc)
sign-sort a_comment e = absurd (cc)
sign-sort a_word e = absurd (cc)
sign-sort a_number e = absurd (cc)
sign-sort a_text e = absurd (cc)
sign-sort a_sign e = refl

abbrev begins_sign : List ℕ → Bool
begins_sign [] = false
begins_sign (b ∷ bs) = is_sign_sort (sort_of b)

-- A part isn't empty, and its first byte tells what it is.
pub first-tells : (sort : Sort) (bytes : List ℕ) → IsOf sort bytes → (b : ℕ) × (bs : List ℕ) × (bytes ≡ b ∷ bs) × (sort_of b ≡ sort)
first-tells a_space [] is = absurd is
first-tells a_space (b ∷ bs) is = (b, bs, refl, rw ((both (is_white b) (list_all is_white bs) is).0))
first-tells a_comment [] is = absurd is
first-tells a_comment (b ∷ bs) is = (b, bs, refl, rw is.0)
first-tells a_word [] is = absurd is
first-tells a_word (b ∷ bs) is = (b, bs, refl, sort-word b is.0)
first-tells a_number bytes is = elim is [
  | inl digits ↦ of-digits bytes digits
  | inr parts ↦
      let whole = of-digits parts.0 parts.2 in
      (whole.0, whole.1 ++ 46 ∷ parts.1, parts.4 ∙ ap (λ front. front ++ 46 ∷ parts.1) whole.2, whole.3)
] where
  of-digits : (digits : List ℕ) → IsDigits digits → (b : ℕ) × (bs : List ℕ) × (digits ≡ b ∷ bs) × (sort_of b ≡ a_number)
  of-digits [] is = absurd is
  of-digits (b ∷ bs) is = (b, bs, refl, sort-number b (both (is_ascii_digit b) (list_all is_ascii_digit bs) is).0)
first-tells a_text bytes is = (39, _, is.2, refl)
first-tells a_sign bytes is = of-sign bytes (contains-passes begins_sign signs bytes refl is) where
  of-sign : (bytes : List ℕ) → begins_sign bytes ≡ true → (b : ℕ) × (bs : List ℕ) × (bytes ≡ b ∷ bs) × (sort_of b ≡ a_sign)
  of-sign [] e = absurd (cc)
  of-sign (b ∷ bs) e = (b, bs, refl, sign-sort (sort_of b) e)

-- a part stands as what it is
pub part-stands : (kind : Option Kind) (bytes rest : List ℕ) → IsPart kind bytes rest → (sort : Sort) × (kind ≡ kind_of sort) × StandsAs sort bytes rest
part-stands None bytes rest is = elim is [ inl space ↦ (a_space, refl, space) | inr comment ↦ (a_comment, refl, comment) ]
part-stands (Some Word) bytes rest is = (a_word, refl, is.0)
part-stands (Some Number) bytes rest is = (a_number, refl, is.0)
part-stands (Some Text) bytes rest is = (a_text, refl, is.0)
part-stands (Some Sign) bytes rest is = (a_sign, refl, is.0)

pub stands-is : (sort : Sort) (bytes rest : List ℕ) → StandsAs sort bytes rest → IsOf sort bytes
stands-is a_space bytes rest stands = stands.0
stands-is a_comment bytes rest stands = stands.0
stands-is a_word bytes rest stands = stands.0
stands-is a_number bytes rest stands = stands.0
stands-is a_text bytes rest stands = stands.0
stands-is a_sign bytes rest stands = stands.0

same-first : (sort : Sort) (bytes after rest : List ℕ) (b : ℕ) (bs : List ℕ) → IsOf sort bytes → rest ≡ bytes ++ after → rest ≡ b ∷ bs → sort_of b ≡ sort
same-first sort bytes after rest b bs is split rest-is =
    let first : (c : ℕ) × (cs : List ℕ) × (bytes ≡ c ∷ cs) × (sort_of c ≡ sort) = first-tells sort bytes is in
    let joined : b ∷ bs ≡ first.0 ∷ first.1 ++ after = sym rest-is ∙ split ∙ ap (λ front. front ++ after) first.2 in
    let same : b ≡ first.0 = cc (joined) in
    ap sort_of same ∙ first.3

-- bytes that begin nothing: none of white space, comments, words, numbers, quotes and signs
pub nothing-begins : (rest : List ℕ) → 0 < length rest → is_white (get_or rest 0 0) ≡ false → (get_or rest 0 0 ≡ 35 → ⊥) → starts_word (get_or rest 0 0) ≡ false
    → is_ascii_digit (get_or rest 0 0) ≡ false → (get_or rest 0 0 ≡ 39 → ⊥) → IsSignLen rest None → BeginsNothing rest
nothing-begins [] some no_white no_hash no_word no_digit no_quote no_sign = absurd (omega (arith, some))
nothing-begins (b ∷ bs) some no_white no_hash no_word no_digit no_quote no_sign =
    let no_35 : (b == 35) ≡ false = false-of (b == 35) (λ h. no_hash (eqb-true b 35 h)) in
    let no_39 : is_quote b ≡ false = false-of (is_quote b) (λ h. no_quote (eqb-true b 39 h)) in
    let other : sort_of b ≡ a_sign = rw (no_white, no_35, no_word, no_digit, no_39) in
    record { some = some; no_part = no-part other; no_quote = λ quote. no_quote (eqb-true b 39 quote) } where
      no-token : sort_of b ≡ a_sign → (bytes after : List ℕ) → b ∷ bs ≡ bytes ++ after → (kind : Kind) → IsToken kind bytes → ⊥
      no-token other bytes after e Word is = cc (other, same-first a_word bytes after (b ∷ bs) b bs is e refl)
      no-token other bytes after e Number is = cc (other, same-first a_number bytes after (b ∷ bs) b bs is e refl)
      no-token other bytes after e Text is = cc (other, same-first a_text bytes after (b ∷ bs) b bs is e refl)
      no-token other bytes after e Sign is = no_sign bytes after is e

      no-part : sort_of b ≡ a_sign → ¬ BeginsPart (b ∷ bs)
      no-part other (bytes, after, e, part) = elim part [
        | inl space ↦ cc (other, same-first a_space bytes after (b ∷ bs) b bs space e refl)
        | inr more ↦ elim more [
          | inl comment ↦ cc (other, same-first a_comment bytes after (b ∷ bs) b bs comment e refl)
          | inr token ↦ no-token other bytes after e token.0 token.1
        ]
      ]

pub stands-some : (kind : Kind) (bytes rest : List ℕ) → Stands kind bytes rest → bytes ≡ [] → ⊥
stands-some Word bytes rest stands none = cc (none, (first-tells a_word bytes stands.0).2)
stands-some Number bytes rest stands none = cc (none, (first-tells a_number bytes stands.0).2)
stands-some Text bytes rest stands none = cc (none, (first-tells a_text bytes stands.0).2)
stands-some Sign bytes rest stands none = cc (none, (first-tells a_sign bytes stands.0).2)
