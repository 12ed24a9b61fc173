-- What is written token by token is read back.
use Rattle.std.proofs.Common.{◌≡◌, ℕ, ◌+◌, ◌≤◌, Bool, true, false, not, ◌||◌, ◌==◌, List, [], ◌∷◌, ◌++◌, length, drop, map, refl, sym, ap, ◌∙◌, subst, arith, append_assoc, append-nil, Some, None, Option, inl, inr, eq-eqb, cond, nat_eq, nat_le, suc, Result, Ok, Err, OnOk, IsTrue, bytes_eq}
use Rattle.std.proofs.lemmas.Bool.{leb-true}
use Rattle.std.specs.Cmp.Lexicographic.{same_text}
use Rattle.std.proofs.lemmas.Bool.Decides.{Decides-eqb}
use Rattle.std.proofs.lemmas.Slice.Eq.{starts_is}
use Rattle.std.specs.Char.{is_ascii_digit}
use Rattle.std.specs.List.{list_all, list_any, Contains, cons_option, starts_with}
use Rattle.std.specs.Option.{option_map}
use Rattle.cube_lex.specs.Bytes.{Begins, is_white, is_quote, starts_word, is_word_byte}
use Rattle.cube_lex.specs.Lexed.{Lexed}
use Rattle.cube_lex.specs.Parts.{Part, Divides, IsLongest, IsToken, IsWord, IsNumber, IsDigits, IsQuoted, Stands, signs, is_sign, most_token_bytes}
use Rattle.cube_lex.specs.Reading.{mark_len, lexeme_at, lexemes_among, IsRead, IsReading, most_text_bytes}
use Rattle.cube_lex.specs.Written.{Spelling, spelling_of, IsWritten, Adds, HasReading}
use Rattle.cube_lex.specs.Fault.{place_of}
use Rattle.cube_lex.specs.Positions.{position_at}
use Rattle.cube_lex.specs.declared.fault.LexFault.{LexFault}
use Rattle.cube_lex.specs.declared.token.Kind.{Kind}
use Rattle.cube_lex.specs.declared.token.Kind.TheVariants.{Word, Number, Text, Sign}
use Rattle.cube_lex.proofs.Fronts.{space-passes, word-passes}
use Rattle.cube_lex.proofs.Numbers.{digits-pass}
use Rattle.cube_lex.proofs.Runs.{both, false-of, run-longest, list_all-append, weaker}
use Rattle.cube_lex.proofs.SignTable.{contains-passes}
use Rattle.cube_lex.proofs.Sorts.{at-white, Sort, a_space, a_word, a_number, a_text, a_sign, sort_of, IsOf, first-tells}
use Rattle.cube_lex.proofs.Unique.{read-only}

-- a test that white space doesn't pass
unlike-white : (p : ℕ → Bool) → p 32 ≡ false → p 9 ≡ false → p 13 ≡ false → p 10 ≡ false → (b : ℕ) → p b ≡ true → not (is_white b) ≡ true
unlike-white p at32 at9 at13 at10 b passes =
    let dark : is_white b ≡ false = false-of (is_white b) (λ white. at-white (λ c. p c ≡ true → ⊥) (λ h. cc (h, at32)) (λ h. cc (h, at9)) (λ h. cc (h, at13)) (λ h. cc (h, at10)) b white passes) in
    rw dark refl

word-dark : (bytes : List ℕ) → IsWord bytes → list_all (λ b. not (is_white b)) bytes ≡ true
word-dark bytes is = weaker is_word_byte (λ b. not (is_white b)) (unlike-white is_word_byte refl refl refl refl) bytes (word-passes bytes is)

digits-dark : (bytes : List ℕ) → IsDigits bytes → list_all (λ b. not (is_white b)) bytes ≡ true
digits-dark bytes is = weaker is_ascii_digit (λ b. not (is_white b)) (unlike-white is_ascii_digit refl refl refl refl) bytes (digits-pass bytes is)

number-dark : (bytes : List ℕ) → IsNumber bytes → list_all (λ b. not (is_white b)) bytes ≡ true
number-dark bytes is = elim is [
  | inl digits ↦ digits-dark bytes digits
  | inr parts ↦ rw parts.4 (list_all-append (λ b. not (is_white b)) parts.0 (46 ∷ parts.1) (digits-dark parts.0 parts.2) (digits-dark parts.1 parts.3))
]

sign-dark : (bytes : List ℕ) → Contains signs bytes → list_all (λ b. not (is_white b)) bytes ≡ true
sign-dark bytes is = contains-passes (list_all (λ b. not (is_white b))) signs bytes refl is

-- what has no white space in it is the longest before white space
dark-longest : (Is : List ℕ → Type 0) → ((bytes : List ℕ) → Is bytes → list_all (λ b. not (is_white b)) bytes ≡ true)
    → (piece : List ℕ) (white : ℕ) (after : List ℕ) → Is piece → is_white white ≡ true → IsLongest Is piece (white ∷ after)
dark-longest Is dark piece white after is is_w = (
  is,
  λ longer more longer-is e.
      run-longest (λ b. not (is_white b)) longer more piece (white ∷ after) (dark longer longer-is) (λ h. cc (h, is_w)) e,
)

-- a token before white space
pub token-before_white : (kind : Kind) (piece : List ℕ) (white : ℕ) (after : List ℕ) → IsToken kind piece → is_white white ≡ true → Stands kind piece (white ∷ after)
token-before_white Word piece white after is is_w = dark-longest IsWord word-dark piece white after is is_w
token-before_white Number piece white after is is_w = dark-longest IsNumber number-dark piece white after is is_w
token-before_white Text piece white after is is_w = (is, λ quote. at-white (λ b. is_quote b ≡ true → ⊥) (λ h. cc (h)) (λ h. cc (h)) (λ h. cc (h)) (λ h. cc (h)) white is_w quote)
token-before_white Sign piece white after is is_w = dark-longest (Contains signs) sign-dark piece white after is is_w

-- a token begins with no white space
token-no_white : (kind : Kind) (piece rest : List ℕ) → IsToken kind piece → Begins is_white (piece ++ rest) → ⊥
token-no_white kind piece rest is starts = by_kind kind is where
  clash : (sort : Sort) → IsOf sort piece → (sort ≡ a_space → ⊥) → ⊥
  clash sort of apart =
      let first = first-tells sort piece of in
      let white : is_white first.0 ≡ true = rw first.2 at starts in
      let space : sort_of first.0 ≡ a_space = rw white refl in
      apart (sym first.3 ∙ space)

  by_kind : (kind : Kind) → IsToken kind piece → ⊥
  by_kind Word of = clash a_word of (λ e. cc (e))
  by_kind Number of = clash a_number of (λ e. cc (e))
  by_kind Text of = clash a_text of (λ e. cc (e))
  by_kind Sign of = clash a_sign of (λ e. cc (e))

token-some : (kind : Kind) (piece : List ℕ) → IsToken kind piece → piece ≡ [] → ⊥
token-some Word piece is none = cc (none, (first-tells a_word piece is).2)
token-some Number piece is none = cc (none, (first-tells a_number piece is).2)
token-some Text piece is none = cc (none, (first-tells a_text piece is).2)
token-some Sign piece is none = cc (none, (first-tells a_sign piece is).2)

-- the tokens among parts, wherever they stand
spelled : List Part → List Spelling
spelled [] = []
spelled (part ∷ parts) = cons_option (option_map (λ kind. record { kind = kind; piece = part.bytes }) part.kind) (spelled parts)

spelled-lexemes : (text : List ℕ) (at : ℕ) (parts : List Part) → map spelling_of (lexemes_among text at parts) ≡ spelled parts
unfolding spelled
spelled-lexemes text at [] = refl
spelled-lexemes text at (part ∷ parts) = of_kind (spelled-lexemes text (at + length part.bytes) parts) part.kind where
  of_kind : map spelling_of (lexemes_among text (at + length part.bytes) parts) ≡ spelled parts → (kind : Option Kind)
      → map spelling_of (cons_option (lexeme_at text at (record { kind = kind; bytes = part.bytes })) (lexemes_among text (at + length part.bytes) parts))
      ≡ cons_option (option_map (λ k. record { kind = k; piece = part.bytes }) kind) (spelled parts)
  of_kind below None = below
  of_kind below (Some kind) = ap (λ rest. record { kind = kind; piece = part.bytes } ∷ rest) below

-- white space before what doesn't begin with it
white-before : (white rest : List ℕ) → list_all is_white white ≡ true → (Begins is_white rest → ⊥) → (parts : List Part) → Divides rest parts []
    → (all : List Part) × Divides (white ++ rest) all [] × (spelled all ≡ spelled parts)
unfolding spelled
white-before [] rest white dark parts divided = (parts, divided, refl)
white-before (b ∷ bs) rest white dark parts divided = (
  record { kind = None; bytes = b ∷ bs } ∷ parts,
  (rest, refl, inl (white, λ longer more longer-is e. run-longest is_white longer more (b ∷ bs) rest (space-passes longer longer-is) dark e), divided),
  refl,
)

-- the parts of a written text, also behind white space
written-parts : (words : List Spelling) (bytes white : List ℕ) → IsWritten words bytes → list_all is_white white ≡ true
    → (parts : List Part) × Divides (white ++ bytes) parts [] × (spelled parts ≡ words)
unfolding spelled
written-parts [] bytes white written is_white_ =
    let all = white-before (white ++ bytes) [] (list_all-append is_white white bytes is_white_ written) (λ h. h) [] refl in
    (all.0, subst (λ bs. Divides bs all.0 []) (append-nil (white ++ bytes)) all.1, all.2)
written-parts (word ∷ words) bytes white (before, after, space, bytes-is, before-white, space-white, is, short, written) white-is =
    let below = written-parts words after (space ∷ []) written (rw space-white refl) in
    let token : Divides (word.piece ++ space ∷ after) (record { kind = Some word.kind; bytes = word.piece } ∷ below.0) [] =
    (space ∷ after, refl, (token-before_white word.kind word.piece space after is space-white, short), below.1) in
    let all = white-before (white ++ before) (word.piece ++ space ∷ after) (list_all-append is_white white before white-is before-white)
    (token-no_white word.kind word.piece (space ∷ after) is) (record { kind = Some word.kind; bytes = word.piece } ∷ below.0) token in (
      all.0,
      subst (λ bs. Divides bs all.0 []) (append_assoc white before (word.piece ++ space ∷ after) ∙ ap (λ bs. white ++ bs) (sym bytes-is)) all.1,
      all.2 ∙ ap (λ rest. record { kind = word.kind; piece = word.piece } ∷ rest) below.2,
    )

no_mark : List ℕ → Bool
no_mark [] = true
no_mark (b ∷ bs) = not (b == 0xEF)

signs-no_mark : list_all no_mark signs ≡ true
unfolding no_mark
signs-no_mark = refl

-- a byte that passes a test which the mark's first doesn't is another
unmarked : (p : ℕ → Bool) (b : ℕ) → p 0xEF ≡ false → p b ≡ true → b ≡ 0xEF → ⊥
unmarked p b fails passes e = cc (fails, passes, ap p e)

digits-no_mark : (bytes rest : List ℕ) (b : ℕ) (bs : List ℕ) → IsDigits bytes → b ∷ bs ≡ bytes ++ rest → b ≡ 0xEF → ⊥
digits-no_mark [] rest b bs is e marked = is
digits-no_mark (c ∷ cs) rest b bs is e marked =
    let same : b ≡ c = cc (e) in
    unmarked is_ascii_digit c refl (both (is_ascii_digit c) (list_all is_ascii_digit cs) is).0 (sym same ∙ marked)

number-no_mark : (b : ℕ) (bs : List ℕ) → IsNumber (b ∷ bs) → b ≡ 0xEF → ⊥
number-no_mark b bs is marked = elim is [
  | inl digits ↦ digits-no_mark (b ∷ bs) [] b bs digits (sym (append-nil (b ∷ bs))) marked
  | inr parts ↦ digits-no_mark parts.0 (46 ∷ parts.1) b bs parts.2 parts.4 marked
]

sign-no_mark : (b : ℕ) (bs : List ℕ) → Contains signs (b ∷ bs) → b ≡ 0xEF → ⊥
unfolding no_mark
sign-no_mark b bs is marked =
    let apart : not (b == 0xEF) ≡ true = contains-passes no_mark signs (b ∷ bs) signs-no_mark is in
    cc (apart, eq-eqb b 0xEF marked)

text-no_mark : (b : ℕ) (bs : List ℕ) → IsQuoted (b ∷ bs) → b ≡ 0xEF → ⊥
text-no_mark b bs is marked = let quote : b ≡ 39 = cc (is.2) in unmarked is_quote b refl (eq-eqb b 39 quote) marked

-- no token begins with the first byte of a mark
token-no_mark : (kind : Kind) (b : ℕ) (bs : List ℕ) → IsToken kind (b ∷ bs) → b ≡ 0xEF → ⊥
token-no_mark Word b bs is marked = unmarked starts_word b refl is.0 marked
token-no_mark Number b bs is marked = number-no_mark b bs is marked
token-no_mark Text b bs is marked = text-no_mark b bs is marked
token-no_mark Sign b bs is marked = sign-no_mark b bs is marked

white-no_mark : (b : ℕ) (bs : List ℕ) → list_all is_white (b ∷ bs) ≡ true → b ≡ 0xEF → ⊥
white-no_mark b bs white marked = unmarked is_white b refl (both (is_white b) (list_all is_white bs) white).0 marked

-- a written text begins with no mark
written-no_mark : (words : List Spelling) (bytes : List ℕ) → IsWritten words bytes → mark_len bytes ≡ 0
written-no_mark words bytes written =
    elim (starts_with nat_eq bytes (0xEF ∷ 0xBB ∷ 0xBF ∷ [])) as (λ b. starts_with nat_eq bytes (0xEF ∷ 0xBB ∷ 0xBF ∷ []) ≡ b → ◌≡◌ {A = ℕ} (cond b 3 0) 0) [
      | true ↦ λ marked. absurd (no_marked words written 0xEF (0xBB ∷ 0xBF ∷ drop 3 bytes) refl ((starts_is Decides-eqb bytes (0xEF ∷ 0xBB ∷ 0xBF ∷ []) (starts_with nat_eq bytes (0xEF ∷ 0xBB ∷ 0xBF ∷ [])) refl).0 marked))
      | false ↦ λ unmarked. refl
    ] refl where
      token-first : (kind : Kind) (piece rest behind : List ℕ) (m : ℕ) → m ≡ 0xEF → IsToken kind piece → (piece ≡ [] → ⊥) → m ∷ behind ≡ piece ++ rest → ⊥
      token-first kind [] rest behind m marked is some e = some refl
      token-first kind (b ∷ bs) rest behind m marked is some e = let same : m ≡ b = cc (e) in token-no_mark kind b bs is (sym same ∙ marked)

      white-first : (before rest behind : List ℕ) (m : ℕ) → m ≡ 0xEF → list_all is_white before ≡ true → (m ∷ behind ≡ rest → ⊥) → m ∷ behind ≡ before ++ rest → ⊥
      white-first [] rest behind m marked white apart e = apart e
      white-first (b ∷ bs) rest behind m marked white apart e = let same : m ≡ b = cc (e) in white-no_mark b bs white (sym same ∙ marked)

      no_marked : (words : List Spelling) → IsWritten words bytes → (m : ℕ) (behind : List ℕ) → m ≡ 0xEF → bytes ≡ m ∷ behind → ⊥
      no_marked [] written m behind marked e = white-no_mark m behind (subst (λ bs. list_all is_white bs ≡ true) e written) marked
      no_marked (word ∷ words) (before, after, space, bytes-is, before-white, space-white, is, short, written) m behind marked e =
          white-first before (word.piece ++ space ∷ after) behind m marked before-white
          (token-first word.kind word.piece (space ∷ after) behind m marked is (token-some word.kind word.piece is))
          (sym e ∙ bytes-is)

-- A text that is written token by token is read as just these tokens.
pub written-reads : (words : List Spelling) (text : List ℕ) → IsWritten words text → length text ≤ most_text_bytes → (lexed : Lexed) (fault : Option LexFault) → IsReading text lexed fault
    → (map spelling_of lexed.lexemes ≡ words) × (fault ≡ None)
written-reads words text written small lexed fault is =
    let parts = written-parts words text [] written refl in
    let no_mark_is : mark_len text ≡ 0 = written-no_mark words text written in
    let built : IsRead text (lexemes_among text (mark_len text) parts.0) None =
    (parts.0, [], subst (λ n. Divides (drop n text) parts.0 []) (sym no_mark_is) parts.1, refl, refl) in
    let same : (lexed.lexemes ≡ lexemes_among text (mark_len text) parts.0) × (fault ≡ None) = read-only text lexed.lexemes (lexemes_among text (mark_len text) parts.0) fault None (is.within small) built in
    (ap (map spelling_of) same.0 ∙ spelled-lexemes text (mark_len text) parts.0 ∙ parts.2, same.1)

-- and there is such a reading
pub written-reading : (words : List Spelling) (text : List ℕ) → IsWritten words text → length text ≤ most_text_bytes → HasReading words text
written-reading words text written small =
    let parts = written-parts words text [] written refl in
    let no_mark_is : mark_len text ≡ 0 = written-no_mark words text written in (
      record { lexemes = lexemes_among text (mark_len text) parts.0; end = position_at text (place_of text None) },
      record {
        oversize = λ large. absurd (omega (arith, large, small));
        within = λ _. (parts.0, [], subst (λ n. Divides (drop n text) parts.0 []) (sym no_mark_is) parts.1, refl, refl);
        end = refl;
      },
      spelled-lexemes text (mark_len text) parts.0 ∙ parts.2,
    )

-- more white space in front
written-behind_white : (words : List Spelling) (white bytes : List ℕ) → list_all is_white white ≡ true → IsWritten words bytes → IsWritten words (white ++ bytes)
written-behind_white [] white bytes is written = list_all-append is_white white bytes is written
written-behind_white (word ∷ words) white bytes is (before, after, space, bytes-is, before-white, space-white, token, short, written) = (
  white ++ before,
  after,
  space,
  ap (λ bs. white ++ bs) bytes-is ∙ sym (append_assoc white before (word.piece ++ space ∷ after)),
  list_all-append is_white white before is before-white,
  space-white,
  token,
  short,
  written,
)

-- one written text behind another
pub written-append : (xs ys : List Spelling) (a b : List ℕ) → IsWritten xs a → IsWritten ys b → IsWritten (xs ++ ys) (a ++ b)
written-append [] ys a b first second = written-behind_white ys a b first second
written-append (x ∷ xs) ys a b (before, after, space, a-is, before-white, space-white, is, short, first) second = (
  before,
  after ++ b,
  space,
  ap (λ bs. bs ++ b) a-is ∙ append_assoc before (x.piece ++ space ∷ after) b ∙ ap (λ bs. before ++ bs) (append_assoc x.piece (space ∷ after) b),
  before-white,
  space-white,
  is,
  short,
  written-append xs ys after b first second,
)

pub adds-none : (old : List ℕ) → Adds old old []
adds-none old = ([], sym (append-nil old), refl)

-- what is added twice
pub adds-both : (old between new : List ℕ) (xs ys : List Spelling) → Adds old between xs → Adds between new ys → Adds old new (xs ++ ys)
adds-both old between new xs ys (a, between-is, first) (b, new-is, second) =
    (a ++ b, new-is ∙ ap (λ bs. bs ++ b) between-is ∙ append_assoc old a b, written-append xs ys a b first second)

pub adds-token : (old : List ℕ) (kind : Kind) (piece : List ℕ) → IsToken kind piece → length piece ≤ most_token_bytes → Adds old ((old ++ piece) ++ 32 ∷ []) (record { kind = kind; piece = piece } ∷ [])
adds-token old kind piece is short = (piece ++ 32 ∷ [], append_assoc old piece (32 ∷ []), ([], [], 32, refl, refl, refl, is, short, refl))

pub adds-line : (old : List ℕ) → Adds old (old ++ 10 ∷ []) []
adds-line old = (10 ∷ [], refl, refl)

-- a call that writes a piece and a space adds the token
pub added : {T E : Type 0} (answer : Result T E) (old new : List ℕ) (kind : Kind) (piece : List ℕ) → IsToken kind piece → length piece ≤ most_token_bytes
    → OnOk answer (new ≡ (old ++ piece) ++ 32 ∷ []) → OnOk answer (Adds old new (record { kind = kind; piece = piece } ∷ []))
added (Ok x) old new kind piece is short is-new = subst (λ bs. Adds old bs (record { kind = kind; piece = piece } ∷ [])) (sym is-new) (adds-token old kind piece is short)
added (Err e) old new kind piece is short is-new = tt

any-contains : (bytes : List ℕ) (table : List (List ℕ)) → list_any (bytes_eq bytes) table ≡ true → Contains table bytes
any-contains bytes [] = λ found. absurd (cc)
any-contains bytes (x ∷ xs) =
    elim (bytes_eq bytes x) as (λ b. bytes_eq bytes x ≡ b → (b || list_any (bytes_eq bytes) xs) ≡ true → Contains (x ∷ xs) bytes) [
      | true ↦ λ same found. (0, omega arith, sym (same_text bytes x (sym same)))
      | false ↦ λ other found. let there : Contains xs bytes = any-contains bytes xs found in (suc there.0, omega (arith, there.1), there.2)
    ] refl

-- what the table's test finds is a sign
pub sign-tested : (bytes : List ℕ) → IsTrue (is_sign bytes) → Contains signs bytes × (length bytes ≤ most_token_bytes)
sign-tested bytes found =
    let there : Contains signs bytes = any-contains bytes signs found in
    (there, leb-true (length bytes) most_token_bytes (contains-passes (λ s. nat_le (length s) most_token_bytes) signs bytes refl there))
