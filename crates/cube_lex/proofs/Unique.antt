-- A text is read in one way.
use Rattle.std.proofs.Common.{◌≡◌, ℕ, ◌+◌, ◌-◌, ◌<◌, ◌≤◌, true, false, List, [], ◌∷◌, ◌++◌, length, take, drop, refl, sym, ap, ◌∙◌, subst, arith, append_assoc, Some, None, Option, inl, inr, leb, Result, Ok, Err, IfOk}
use Rattle.std.proofs.lemmas.Bool.{leb-true, leb-false}
use Rattle.std.proofs.Math.Seq.{take-append_seam, drop-append_seam}
use Rattle.cube_lex.specs.Bytes.{Begins, is_quote, is_plain}
use Rattle.cube_lex.specs.Fault.{Stops, BeginsPart, BeginsNothing, OpensQuote, HasForbiddenByte, IsOpenQuote, BeginsLongToken, place_of}
use Rattle.cube_lex.specs.Lexed.{Lexed}
use Rattle.cube_lex.specs.Lexeme.{Lexeme}
use Rattle.cube_lex.specs.Parts.{Part, Divides, IsPart, IsLongest, IsToken, Stands}
use Rattle.cube_lex.specs.Positions.{position_at}
use Rattle.cube_lex.specs.Quoted.{doubled, quoted}
use Rattle.cube_lex.specs.Reading.{mark_len, lexemes_among, IsRead, IsReading, most_text_bytes}
use Rattle.cube_lex.specs.declared.fault.LexFault.{LexFault}
use Rattle.cube_lex.specs.declared.fault.LexFault.TheVariants.{BadByte, OpenQuote, TooLong, Memory}
use Rattle.cube_lex.specs.declared.token.Kind.{Kind}
use Rattle.cube_lex.specs.declared.token.Kind.TheVariants.{Word, Number, Text, Sign}
use Rattle.cube_lex.proofs.Quotes.{EndsInside, inside-only}
use Rattle.cube_lex.proofs.Sorts.{Sort, a_space, a_comment, a_word, a_number, a_text, a_sign, sort_of, kind_of, IsOf, StandsAs, first-tells, part-stands, stands-is}

-- two fronts of one text that are as long are the same
same-front : (xs ys more rest : List ℕ) → length xs ≡ length ys → xs ++ more ≡ ys ++ rest → (xs ≡ ys) × (more ≡ rest)
same-front xs ys more rest same e = (
  sym (take-append_seam xs more) ∙ ap (λ n. take n (xs ++ more)) same ∙ ap (take (length ys)) e ∙ take-append_seam ys rest,
  sym (drop-append_seam xs more) ∙ ap (λ n. drop n (xs ++ more)) same ∙ ap (drop (length ys)) e ∙ drop-append_seam ys rest,
)

-- there is one longest of a kind
longest-only : (Is : List ℕ → Type 0) (xs ys more rest : List ℕ) → IsLongest Is xs more → IsLongest Is ys rest → xs ++ more ≡ ys ++ rest → (xs ≡ ys) × (more ≡ rest)
longest-only Is xs ys more rest x-is y-is e =
    same-front xs ys more rest (omega (arith, x-is.1 ys rest y-is.0 (sym e), y-is.1 xs more x-is.0 e)) e

-- what ends a quoted text
closes : (rest : List ℕ) → (Begins is_quote rest → ⊥) → EndsInside (39 ∷ rest)
closes rest no_quote = inr (refl, no_quote)

quoted-only : (xs ys more rest : List ℕ) → Stands Text xs more → Stands Text ys rest → xs ++ more ≡ ys ++ rest → (xs ≡ ys) × (more ≡ rest)
quoted-only xs ys more rest x-is y-is e =
    let regrouped : doubled x-is.0.0 ++ (39 ∷ more) ≡ doubled y-is.0.0 ++ (39 ∷ rest) =
    sym (append_assoc (doubled x-is.0.0) (39 ∷ []) more) ∙ ap (λ bs. drop 1 (bs ++ more)) (sym x-is.0.2) ∙ ap (drop 1) e ∙ ap (λ bs. drop 1 (bs ++ rest)) y-is.0.2
    ∙ append_assoc (doubled y-is.0.0) (39 ∷ []) rest in
    let one : (x-is.0.0 ≡ y-is.0.0) × (39 ∷ more ≡ 39 ∷ rest) =
    inside-only x-is.0.0 y-is.0.0 (39 ∷ more) (39 ∷ rest) x-is.0.1 y-is.0.1 (closes more x-is.1) (closes rest y-is.1) regrouped in
    (x-is.0.2 ∙ ap quoted one.0 ∙ sym y-is.0.2, ap (drop 1) one.1)

stands-only : (sort : Sort) (xs ys more rest : List ℕ) → StandsAs sort xs more → StandsAs sort ys rest → xs ++ more ≡ ys ++ rest → (xs ≡ ys) × (more ≡ rest)
stands-only a_space xs ys more rest x-is y-is e = longest-only _ xs ys more rest x-is y-is e
stands-only a_comment xs ys more rest x-is y-is e = longest-only _ xs ys more rest x-is y-is e
stands-only a_word xs ys more rest x-is y-is e = longest-only _ xs ys more rest x-is y-is e
stands-only a_number xs ys more rest x-is y-is e = longest-only _ xs ys more rest x-is y-is e
stands-only a_text xs ys more rest x-is y-is e = quoted-only xs ys more rest x-is y-is e
stands-only a_sign xs ys more rest x-is y-is e = longest-only _ xs ys more rest x-is y-is e

-- the first byte decides what stands there
same-sort : (s t : Sort) (xs ys more rest : List ℕ) → IsOf s xs → IsOf t ys → xs ++ more ≡ ys ++ rest → s ≡ t
same-sort s t xs ys more rest x-is y-is e =
    let x = first-tells s xs x-is in
    let y = first-tells t ys y-is in
    let joined : x.0 ∷ x.1 ++ more ≡ y.0 ∷ y.1 ++ rest = ap (λ bs. bs ++ more) (sym x.2) ∙ e ∙ ap (λ bs. bs ++ rest) y.2 in
    let same : x.0 ≡ y.0 = cc (joined) in
    sym x.3 ∙ ap sort_of same ∙ y.3

-- one part stands at the front of a text
pub part-only : (k l : Option Kind) (xs ys more rest : List ℕ) → IsPart k xs more → IsPart l ys rest → xs ++ more ≡ ys ++ rest → (k ≡ l) × (xs ≡ ys) × (more ≡ rest)
part-only k l xs ys more rest x-is y-is e =
    let x = part-stands k xs more x-is in
    let y = part-stands l ys rest y-is in
    let same : x.0 ≡ y.0 = same-sort x.0 y.0 xs ys more rest (stands-is x.0 xs more x.2) (stands-is y.0 ys rest y.2) e in
    let only : (xs ≡ ys) × (more ≡ rest) = stands-only y.0 xs ys more rest (subst (λ s. StandsAs s xs more) same x.2) y.2 e in
    (x.1 ∙ ap kind_of same ∙ sym y.1, only.0, only.1)

-- a token as a part, but for its length
abbrev token-sort : Kind → Sort
token-sort Word = a_word
token-sort Number = a_number
token-sort Text = a_text
token-sort Sign = a_sign

token-stands : (kind : Kind) (bytes rest : List ℕ) → Stands kind bytes rest → StandsAs (token-sort kind) bytes rest
token-stands Word bytes rest stands = stands
token-stands Number bytes rest stands = stands
token-stands Text bytes rest stands = stands
token-stands Sign bytes rest stands = stands

stands-token : (kind : Kind) (bytes : List ℕ) → IsOf (token-sort kind) bytes → IsToken kind bytes
stands-token Word bytes is = is
stands-token Number bytes is = is
stands-token Text bytes is = is
stands-token Sign bytes is = is

-- what stands there begins a part
stands-begins : (sort : Sort) (bytes after rest : List ℕ) → IsOf sort bytes → rest ≡ bytes ++ after → BeginsPart rest
stands-begins a_space bytes after rest is e = (bytes, after, e, inl is)
stands-begins a_comment bytes after rest is e = (bytes, after, e, inr (inl is))
stands-begins a_word bytes after rest is e = (bytes, after, e, inr (inr (Word, is)))
stands-begins a_number bytes after rest is e = (bytes, after, e, inr (inr (Number, is)))
stands-begins a_text bytes after rest is e = (bytes, after, e, inr (inr (Text, is)))
stands-begins a_sign bytes after rest is e = (bytes, after, e, inr (inr (Sign, is)))

-- what stands where a quote opens is a quoted text, so its last quote comes where the bytes inside end
open-part : (rest inside tail : List ℕ) (sort : Sort) (bytes after : List ℕ) → OpensQuote rest inside tail → EndsInside tail → StandsAs sort bytes after → rest ≡ bytes ++ after → tail ≡ 39 ∷ after
open-part rest inside tail sort bytes after opens ends stands e =
    let first = first-tells sort bytes (stands-is sort bytes after stands) in
    let joined : 39 ∷ doubled inside ++ tail ≡ first.0 ∷ first.1 ++ after = sym opens.is ∙ e ∙ ap (λ bs. bs ++ after) first.2 in
    let quote : 39 ≡ first.0 = cc (joined) in
    let text : a_text ≡ sort = ap sort_of quote ∙ first.3 in
    let as_text : StandsAs a_text bytes after = subst (λ s. StandsAs s bytes after) (sym text) stands in
    let regrouped : doubled inside ++ tail ≡ doubled as_text.0.0 ++ (39 ∷ after) =
    ap (drop 1) (sym opens.is ∙ e) ∙ ap (λ bs. drop 1 (bs ++ after)) as_text.0.2 ∙ append_assoc (doubled as_text.0.0) (39 ∷ []) after in
    (inside-only inside as_text.0.0 tail (39 ∷ after) opens.plain as_text.0.1 ends (closes after as_text.1) regrouped).1

open-quote : (rest inside tail : List ℕ) → OpensQuote rest inside tail → Begins is_quote rest
open-quote rest inside tail opens = rw opens.is refl

bad-ends : (rest : List ℕ) (len : ℕ) (quote : HasForbiddenByte rest len) → EndsInside (quote.bad ∷ quote.after)
bad-ends rest len quote = inl quote.forbidden

-- a forbidden byte is no quote
bad-no_quote : (rest : List ℕ) (len : ℕ) (quote : HasForbiddenByte rest len) (more : List ℕ) → quote.bad ∷ quote.after ≡ 39 ∷ more → ⊥
bad-no_quote rest len quote more e = let same : quote.bad ≡ 39 = cc (e) in cc (quote.forbidden, ap is_plain same)

-- so no part stands before it
bad-no_part : (rest : List ℕ) (len : ℕ) (quote : HasForbiddenByte rest len) (sort : Sort) (bytes after : List ℕ) → StandsAs sort bytes after → rest ≡ bytes ++ after → ⊥
bad-no_part rest len quote sort bytes after stands e =
    bad-no_quote rest len quote after (open-part rest quote.inside (quote.bad ∷ quote.after) sort bytes after quote.opens (bad-ends rest len quote) stands e)

open-no_part : (rest : List ℕ) (quote : IsOpenQuote rest) (sort : Sort) (bytes after : List ℕ) → StandsAs sort bytes after → rest ≡ bytes ++ after → ⊥
open-no_part rest quote sort bytes after stands e =
    let closed : [] ≡ 39 ∷ after = open-part rest quote.inside [] sort bytes after quote.opens tt stands e in
    cc (closed)

-- a token that is too long is no part that isn't
long-no_part : (rest : List ℕ) (token : BeginsLongToken rest) (k : Option Kind) (bytes after : List ℕ) → IsPart k bytes after → rest ≡ bytes ++ after → ⊥
long-no_part rest token k bytes after is e =
    let stands : StandsAs (token-sort token.kind) token.piece token.after = token-stands token.kind token.piece token.after token.stands in
    let part = part-stands k bytes after is in
    let same : token-sort token.kind ≡ part.0 =
    same-sort (token-sort token.kind) part.0 token.piece bytes token.after after (stands-is (token-sort token.kind) token.piece token.after stands) (stands-is part.0 bytes after part.2) (sym token.split ∙ e) in
    let only : (token.piece ≡ bytes) × (token.after ≡ after) =
    stands-only part.0 token.piece bytes token.after after (subst (λ s. StandsAs s token.piece token.after) same stands) part.2 (sym token.split ∙ e) in
    too-short k is (part.1 ∙ ap kind_of (sym same)) (ap length only.0) where
      no-kind : (kind : Kind) → (None ≡ kind_of (token-sort kind)) → ⊥
      no-kind Word x = cc (x)
      no-kind Number x = cc (x)
      no-kind Text x = cc (x)
      no-kind Sign x = cc (x)

      too-short : (k : Option Kind) → IsPart k bytes after → k ≡ kind_of (token-sort token.kind) → length token.piece ≡ length bytes → ⊥
      too-short None part-is k-is len = no-kind token.kind k-is
      too-short (Some l) part-is k-is len = omega (arith, part-is.1, token.long, len)

-- where a text stops no part stands
pub stops-no_part : (at : ℕ) (rest : List ℕ) (fault : Option LexFault) (k : Option Kind) (bytes after : List ℕ) → Stops at rest fault → IsPart k bytes after → rest ≡ bytes ++ after → ⊥
stops-no_part at rest None k bytes after stops is e =
    let part = part-stands k bytes after is in
    let first = first-tells part.0 bytes (stands-is part.0 bytes after part.2) in
    let none : [] ≡ first.0 ∷ first.1 ++ after = sym stops ∙ e ∙ ap (λ bs. bs ++ after) first.2 in
    cc (none)
stops-no_part at rest (Some (BadByte place)) k bytes after stops is e =
    let part = part-stands k bytes after is in
    elim stops [
      | inl nothing ↦ nothing.0.no_part (stands-begins part.0 bytes after rest (stands-is part.0 bytes after part.2) e)
      | inr forbidden ↦ bad-no_part rest forbidden.0 forbidden.1 part.0 bytes after part.2 e
    ]
stops-no_part at rest (Some (OpenQuote place)) k bytes after stops is e = let part = part-stands k bytes after is in open-no_part rest stops.0 part.0 bytes after part.2 e
stops-no_part at rest (Some (TooLong place)) k bytes after stops is e = long-no_part rest stops.0 k bytes after is e
stops-no_part at rest (Some Memory) k bytes after stops is e = stops

long-some : (rest : List ℕ) → BeginsLongToken rest → rest ≡ [] → ⊥
long-some rest token e =
    let first = first-tells (token-sort token.kind) token.piece (stands-is (token-sort token.kind) token.piece token.after (token-stands token.kind token.piece token.after token.stands)) in
    let none : [] ≡ first.0 ∷ first.1 ++ token.after = sym e ∙ token.split ∙ ap (λ bs. bs ++ token.after) first.2 in
    cc (none)

stops-some : (at : ℕ) (rest : List ℕ) (fault : LexFault) → Stops at rest (Some fault) → rest ≡ [] → ⊥
stops-some at rest (BadByte place) stops e = elim stops [ inl nothing ↦ omega (arith, nothing.0.some, ap length e) | inr forbidden ↦ cc (e, forbidden.1.opens.is) ]
stops-some at rest (OpenQuote place) stops e = cc (e, stops.0.opens.is)
stops-some at rest (TooLong place) stops e = long-some rest stops.0 e
stops-some at rest Memory stops e = stops

-- of two causes at one place only one holds
bad-open : (at : ℕ) (rest : List ℕ) (p q : ℕ) → Stops at rest (Some (BadByte p)) → Stops at rest (Some (OpenQuote q)) → ⊥
bad-open at rest p q bad (quote, there) = elim bad [
  | inl nothing ↦ nothing.0.no_quote (open-quote rest quote.inside [] quote.opens)
  | inr (len, forbidden, here) ↦
      let one : (forbidden.inside ≡ quote.inside) × (forbidden.bad ∷ forbidden.after ≡ []) =
      inside-only forbidden.inside quote.inside (forbidden.bad ∷ forbidden.after) [] forbidden.opens.plain quote.opens.plain (bad-ends rest len forbidden) tt
      (ap (drop 1) (sym forbidden.opens.is ∙ quote.opens.is)) in
      cc (one.1)
]

bad-long : (at : ℕ) (rest : List ℕ) (p q : ℕ) → Stops at rest (Some (BadByte p)) → Stops at rest (Some (TooLong q)) → ⊥
bad-long at rest p q bad (token, there) =
    let stands : StandsAs (token-sort token.kind) token.piece token.after = token-stands token.kind token.piece token.after token.stands in
    elim bad [
      | inl nothing ↦ nothing.0.no_part (stands-begins (token-sort token.kind) token.piece token.after rest (stands-is (token-sort token.kind) token.piece token.after stands) token.split)
      | inr forbidden ↦ bad-no_part rest forbidden.0 forbidden.1 (token-sort token.kind) token.piece token.after stands token.split
    ]

open-long : (at : ℕ) (rest : List ℕ) (p q : ℕ) → Stops at rest (Some (OpenQuote p)) → Stops at rest (Some (TooLong q)) → ⊥
open-long at rest p q (quote, here) (token, there) =
    open-no_part rest quote (token-sort token.kind) token.piece token.after (token-stands token.kind token.piece token.after token.stands) token.split

nothing-bad : (rest : List ℕ) (len : ℕ) → BeginsNothing rest → HasForbiddenByte rest len → ⊥
nothing-bad rest len nothing forbidden = nothing.no_quote (open-quote rest forbidden.inside (forbidden.bad ∷ forbidden.after) forbidden.opens)

-- a quoted text has one first forbidden byte
bad-place : (rest : List ℕ) (m n : ℕ) → HasForbiddenByte rest m → HasForbiddenByte rest n → m ≡ n
bad-place rest m n x y =
    let one : (x.inside ≡ y.inside) × (x.bad ∷ x.after ≡ y.bad ∷ y.after) =
    inside-only x.inside y.inside (x.bad ∷ x.after) (y.bad ∷ y.after) x.opens.plain y.opens.plain (bad-ends rest m x) (bad-ends rest n y)
    (ap (drop 1) (sym x.opens.is ∙ y.opens.is)) in
    x.before ∙ ap (λ bs. 1 + length (doubled bs)) one.0 ∙ sym y.before

bad-only : (at : ℕ) (rest : List ℕ) (p q : ℕ) → Stops at rest (Some (BadByte p)) → Stops at rest (Some (BadByte q)) → p ≡ q
bad-only at rest p q x y = elim x [
  | inl nothing ↦ elim y [ inl other ↦ nothing.1 ∙ sym other.1 | inr forbidden ↦ absurd (nothing-bad rest forbidden.0 nothing.0 forbidden.1) ]
  | inr forbidden ↦ elim y [
    | inl nothing ↦ absurd (nothing-bad rest forbidden.0 nothing.0 forbidden.1)
    | inr other ↦ forbidden.2 ∙ ap (λ n. at + n) (bad-place rest forbidden.0 other.0 forbidden.1 other.1) ∙ sym other.2
  ]
]

-- a text stops for one cause
pub stops-only : (at : ℕ) (rest : List ℕ) (f g : Option LexFault) → Stops at rest f → Stops at rest g → f ≡ g
stops-only at rest None None x y = refl
stops-only at rest None (Some g) x y = absurd (stops-some at rest g y x)
stops-only at rest (Some f) None x y = absurd (stops-some at rest f x y)
stops-only at rest (Some (BadByte p)) (Some (BadByte q)) x y = ap (λ n. Some (BadByte n)) (bad-only at rest p q x y)
stops-only at rest (Some (BadByte p)) (Some (OpenQuote q)) x y = absurd (bad-open at rest p q x y)
stops-only at rest (Some (BadByte p)) (Some (TooLong q)) x y = absurd (bad-long at rest p q x y)
stops-only at rest (Some (BadByte p)) (Some Memory) x y = absurd y
stops-only at rest (Some (OpenQuote p)) (Some (BadByte q)) x y = absurd (bad-open at rest q p y x)
stops-only at rest (Some (OpenQuote p)) (Some (OpenQuote q)) x y = ap (λ n. Some (OpenQuote n)) (x.1 ∙ sym y.1)
stops-only at rest (Some (OpenQuote p)) (Some (TooLong q)) x y = absurd (open-long at rest p q x y)
stops-only at rest (Some (OpenQuote p)) (Some Memory) x y = absurd y
stops-only at rest (Some (TooLong p)) (Some (BadByte q)) x y = absurd (bad-long at rest q p y x)
stops-only at rest (Some (TooLong p)) (Some (OpenQuote q)) x y = absurd (open-long at rest q p y x)
stops-only at rest (Some (TooLong p)) (Some (TooLong q)) x y = ap (λ n. Some (TooLong n)) (x.1 ∙ sym y.1)
stops-only at rest (Some (TooLong p)) (Some Memory) x y = absurd y
stops-only at rest (Some Memory) (Some g) x y = absurd x

pub part-is : (p q : Part) → p.kind ≡ q.kind → p.bytes ≡ q.bytes → p ≡ q
part-is p q kinds bytes = ap (λ k. record { kind = k; bytes = p.bytes }) kinds ∙ ap (λ bs. record { kind = q.kind; bytes = bs }) bytes

-- up to where it stops, a text has one division into parts
divides-only : (at to : ℕ) (f g : Option LexFault) (body : List ℕ) (ps qs : List Part) (rest tail : List ℕ) → Divides body ps rest → Divides body qs tail → Stops at rest f → Stops to tail g
    → (ps ≡ qs) × (rest ≡ tail)
divides-only at to f g body [] [] rest tail x y x-stops y-stops = (refl, sym x ∙ y)
divides-only at to f g body [] (q ∷ qs) rest tail x (next, y-is, part, y) x-stops y-stops = absurd (stops-no_part at rest f q.kind q.bytes next x-stops part (sym x ∙ y-is))
divides-only at to f g body (p ∷ ps) [] rest tail (next, x-is, part, x) y x-stops y-stops = absurd (stops-no_part to tail g p.kind p.bytes next y-stops part (sym y ∙ x-is))
divides-only at to f g body (p ∷ ps) (q ∷ qs) rest tail (next, x-is, x-part, x) (after, y-is, y-part, y) x-stops y-stops =
    let one : (p.kind ≡ q.kind) × (p.bytes ≡ q.bytes) × (next ≡ after) = part-only p.kind q.kind p.bytes q.bytes next after x-part y-part (sym x-is ∙ y-is) in
    let below : (ps ≡ qs) × (rest ≡ tail) = divides-only at to f g after ps qs rest tail (subst (λ bs. Divides bs ps rest) one.2 x) y x-stops y-stops in
    (ap (λ r. r ∷ ps) (part-is p q one.0 one.1) ∙ ap (λ rs. q ∷ rs) below.0, below.1)

lexed-is : (a b : Lexed) → a.lexemes ≡ b.lexemes → a.end ≡ b.end → a ≡ b
lexed-is a b lexemes end = ap (λ ts. record { lexemes = ts; end = a.end }) lexemes ∙ ap (λ n. record { lexemes = b.lexemes; end = n }) end

pub read-only : (text : List ℕ) (xs ys : List Lexeme) (f g : Option LexFault) → IsRead text xs f → IsRead text ys g → (xs ≡ ys) × (f ≡ g)
read-only text xs ys f g (ps, rest, x-divides, x-is, x-stops) (qs, tail, y-divides, y-is, y-stops) =
    let one : (ps ≡ qs) × (rest ≡ tail) = divides-only (length text - length rest) (length text - length tail) f g (drop (mark_len text) text) ps qs rest tail x-divides y-divides x-stops y-stops in (
      x-is ∙ ap (lexemes_among text (mark_len text)) one.0 ∙ sym y-is,
      stops-only (length text - length tail) tail f g (subst (λ bs. Stops (length text - length bs) bs f) one.1 x-stops) y-stops,
    )

-- A text is read as one thing.
pub reading-only : (text : List ℕ) (a b : Lexed) (f g : Option LexFault) → IsReading text a f → IsReading text b g → (a ≡ b) × (f ≡ g)
reading-only text a b f g x y =
    elim (leb (length text) most_text_bytes) as (λ small. leb (length text) most_text_bytes ≡ small → (a ≡ b) × (f ≡ g)) [
      | true ↦ λ e.
          let fits : length text ≤ most_text_bytes = leb-true (length text) most_text_bytes e in
          both-are (read-only text a.lexemes b.lexemes f g (x.within fits) (y.within fits))
      | false ↦ λ e.
          let large : most_text_bytes < length text = leb-false (length text) most_text_bytes e in
          both-are ((x.oversize large).0 ∙ sym (y.oversize large).0, (x.oversize large).1 ∙ sym (y.oversize large).1)
    ] refl where
      both-are : (a.lexemes ≡ b.lexemes) × (f ≡ g) → (a ≡ b) × (f ≡ g)
      both-are same = (lexed-is a b same.0 (x.end ∙ ap (λ h. position_at text (place_of text h)) same.1 ∙ sym y.end), same.1)

-- so what was read, where it was read, is what the text is read as
pub answer-only : {E : Type 0} (text : List ℕ) (answer : Result (Lexed × Option LexFault) E) → IfOk answer (λ read. IsReading text read.0 read.1)
    → (lexed : Lexed) (fault : Option LexFault) → IsReading text lexed fault → IfOk answer (λ read. (read.0 ≡ lexed) × (read.1 ≡ fault))
answer-only text (Ok read) found lexed fault is = reading-only text read.0 lexed read.1 fault found is
answer-only text (Err e) found lexed fault is = tt
