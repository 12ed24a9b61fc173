-- The loop over the parts of a text.
use Rattle.std.proofs.Common.{◌≡◌, ℕ, ◌+◌, ◌-◌, ◌^◌, ◌<◌, ◌≤◌, Bool, true, false, not, List, [], ◌∷◌, ◌++◌, length, take, drop, map, refl, sym, ap, ◌∙◌, subst, arith, add_assoc, append_assoc, append-nil, length-append, length-drop, length-take, take-append-drop, add-zero, zero-add, Some, None, Option, inl, inr, option_to_list, nat_eq, nat_le, eqb, eqb-true, cond, All}
use Rattle.std.proofs.Math.Seq.{take-append_seam}
use Rattle.std.proofs.lemmas.Bool.{leb-true}
use Rattle.std.proofs.lemmas.Bool.Decides.{Decides-eqb}
use Rattle.std.proofs.lemmas.List.{map-append, nil_from_length as nothing}
use Rattle.std.proofs.lemmas.List.Sums.{sum_by-append, count_by-le-length, sum_by-cons}
use Rattle.std.proofs.lemmas.Slice.Eq.{starts_is}
use Rattle.std.specs.List.{list_all, count_by, cons_option, starts_with}
use Rattle.cube_lex.specs.Bytes.{is_line_end, is_plain, is_quote, line_at}
use Rattle.cube_lex.specs.Fault.{Stops, place_of}
use Rattle.cube_lex.specs.Lexed.{lexed_of, IsWellFormed}
use Rattle.cube_lex.specs.Lexeme.{Lexeme, lexeme_of}
use Rattle.cube_lex.specs.Parts.{Part, Divides, IsPart}
use Rattle.cube_lex.specs.Quoted.{doubled}
use Rattle.cube_lex.specs.Reading.{mark_len, lexeme_at, lexemes_among, IsReading, most_text_bytes}
use Rattle.cube_lex.specs.declared.fault.LexFault.{LexFault}
use Rattle.cube_lex.specs.declared.fault.LexFault.TheVariants.{BadByte, OpenQuote, TooLong, Memory}
use Rattle.cube_lex.specs.declared.token.Kind.{Kind}
use Rattle.cube_lex.specs.declared.token.Token.{Token}
use Rattle.cube_lex.proofs.WellFormed.{among_formed}
use Rattle.cube_lex.proofs.Runs.{both, false-of, weaker}

-- So far the text has these tokens; the rest begins at this offset and on this line.
pub record Going (text : List ℕ) (tokens : List Token) (at line : ℕ) (rest : List ℕ) : Type 0 where
  pub parts : List Part
  pub divided : Divides (drop (mark_len text) text) parts rest
  pub tokens_are : map lexeme_of tokens ≡ lexemes_among text (mark_len text) parts
  pub line_is : line ≡ line_at text at
  pub line_small : line ≤ at + 1
  pub front_is : text ≡ take at text ++ rest
  pub at_is : at + length rest ≡ length text

-- so far each token is one of its kind, and isn't too long
pub going-formed : (text : List ℕ) (tokens : List Token) (at line : ℕ) (rest : List ℕ) → Going text tokens at line rest → All IsWellFormed (map lexeme_of tokens)
going-formed text tokens at line rest going = subst (All IsWellFormed) (sym going.tokens_are) (among_formed text (mark_len text) going.parts (drop (mark_len text) text) rest going.divided)

-- how many bytes the parts have
bytes_of : List Part → ℕ
bytes_of [] = 0
bytes_of (part ∷ parts) = length part.bytes + bytes_of parts

-- one part more
divides-more : (body : List ℕ) (parts : List Part) (rest : List ℕ) (part : Part) (after : List ℕ)
    → Divides body parts rest → rest ≡ part.bytes ++ after → IsPart part.kind part.bytes after → Divides body (parts ++ part ∷ []) after
divides-more body [] rest part after divided rest-is is = (after, divided ∙ rest-is, is, refl)
divides-more body (p ∷ ps) rest part after (next, body-is, p-is, divided) rest-is is = (next, body-is, p-is, divides-more next ps rest part after divided rest-is is)

divides-length : (body : List ℕ) (parts : List Part) (rest : List ℕ) → Divides body parts rest → length body ≡ bytes_of parts + length rest
unfolding bytes_of
divides-length body [] rest divided = ap length divided ∙ sym (zero-add (length rest))
divides-length body (p ∷ ps) rest (next, body-is, p-is, divided) =
    ap length body-is ∙ length-append p.bytes next ∙ ap (λ n. length p.bytes + n) (divides-length next ps rest divided) ∙ sym (add_assoc (length p.bytes) (bytes_of ps) (length rest))

lexemes-more : (text : List ℕ) (at : ℕ) (parts : List Part) (part : Part)
    → lexemes_among text at (parts ++ part ∷ []) ≡ lexemes_among text at parts ++ option_to_list (lexeme_at text (at + bytes_of parts) part)
unfolding bytes_of
lexemes-more text at [] part = rw add-zero (last (lexeme_at text at part)) where
  last : (lexeme : Option Lexeme) → cons_option lexeme [] ≡ option_to_list lexeme
  last None = refl
  last (Some x) = refl
lexemes-more text at (p ∷ ps) part =
    ap (cons_option (lexeme_at text at p)) (lexemes-more text (at + length p.bytes) ps part) ∙ onto (lexeme_at text at p)
    ∙ ap (λ n. lexemes_among text at (p ∷ ps) ++ option_to_list (lexeme_at text n part)) (add_assoc at (length p.bytes) (bytes_of ps)) where
      onto : (lexeme : Option Lexeme) → cons_option lexeme (lexemes_among text (at + length p.bytes) ps ++ option_to_list (lexeme_at text ((at + length p.bytes) + bytes_of ps) part))
          ≡ cons_option lexeme (lexemes_among text (at + length p.bytes) ps) ++ option_to_list (lexeme_at text ((at + length p.bytes) + bytes_of ps) part)
      onto None = refl
      onto (Some x) = refl

-- the line behind some bytes
pub line-more : (text : List ℕ) (at : ℕ) (bytes after : List ℕ) → text ≡ take at text ++ (bytes ++ after) → at ≤ length text
    → (take (at + length bytes) text ≡ take at text ++ bytes) × (line_at text (at + length bytes) ≡ line_at text at + count_by is_line_end bytes)
line-more text at bytes after text-is within =
    let front_len : length (take at text) ≡ at = length-take at text ∙ omega arith in
    let front : take (at + length bytes) text ≡ take at text ++ bytes =
    ap (take (at + length bytes)) (text-is ∙ sym (append_assoc (take at text) bytes after))
    ∙ ap (λ n. take n ((take at text ++ bytes) ++ after)) (sym (length-append (take at text) bytes ∙ ap (λ n. n + length bytes) front_len))
    ∙ take-append_seam (take at text ++ bytes) after in
    (front, ap (λ bs. 1 + count_by is_line_end bs) front ∙ ap (λ n. 1 + n) (sum_by-append _ (take at text) bytes) ∙ omega arith)

-- a mark is no more than the text, and ends no line
pub mark-facts : (text : List ℕ) → (mark_len text ≤ length text) × (line_at text (mark_len text) ≡ 1)
mark-facts text =
    elim (starts_with nat_eq text (0xEF ∷ 0xBB ∷ 0xBF ∷ [])) as (λ b. starts_with nat_eq text (0xEF ∷ 0xBB ∷ 0xBF ∷ []) ≡ b → (cond b 3 0 ≤ length text) × (line_at text (cond b 3 0) ≡ 1)) [
      | true ↦ λ marked.
          let text-is : text ≡ (0xEF ∷ 0xBB ∷ 0xBF ∷ []) ++ drop 3 text = (starts_is Decides-eqb text (0xEF ∷ 0xBB ∷ 0xBF ∷ []) (starts_with nat_eq text (0xEF ∷ 0xBB ∷ 0xBF ∷ [])) refl).0 marked in
          (omega (arith, ap length text-is), ap (λ bytes. line_at bytes 3) text-is)
      | false ↦ λ unmarked. (omega arith, refl)
    ] refl

-- before the first part
pub going-init : (text : List ℕ) → Going text [] (mark_len text) 1 (drop (mark_len text) text)
going-init text = record {
  parts = [];
  divided = refl;
  tokens_are = refl;
  line_is = sym (mark-facts text).1;
  line_small = omega arith;
  front_is = sym (take-append-drop (mark_len text) text);
  at_is = simp length-drop (omega (arith, (mark-facts text).0));
}

-- a part of no kind is passed over, and a token is added
module _ (text : List ℕ) (tokens : List Token) (at line : ℕ) (rest bytes after : List ℕ) (going : Going text tokens at line rest) (rest-is : rest ≡ bytes ++ after) where
  part-at : bytes_of going.parts + mark_len text ≡ at
  part-at = omega (arith, divides-length (drop (mark_len text) text) going.parts rest going.divided, length-drop (mark_len text) text, (mark-facts text).0, going.at_is)

  lines : (take (at + length bytes) text ≡ take at text ++ bytes) × (line_at text (at + length bytes) ≡ line_at text at + count_by is_line_end bytes)
  lines = line-more text at bytes after (going.front_is ∙ ap (λ tail. take at text ++ tail) rest-is) (omega (arith, going.at_is))

  pub going-more : (kind : Option Kind) (more : List Token) → IsPart kind bytes after
      → map lexeme_of more ≡ map lexeme_of tokens ++ option_to_list (lexeme_at text at (record { kind = kind; bytes = bytes }))
      → Going text more (at + length bytes) (line + count_by is_line_end bytes) after
  going-more kind more is more-is = record {
    parts = going.parts ++ record { kind = kind; bytes = bytes } ∷ [];
    divided = divides-more (drop (mark_len text) text) going.parts rest (record { kind = kind; bytes = bytes }) after going.divided rest-is is;
    tokens_are = more-is ∙ ap (λ before. before ++ option_to_list (lexeme_at text at (record { kind = kind; bytes = bytes }))) going.tokens_are
        ∙ ap (λ n. lexemes_among text (mark_len text) going.parts ++ option_to_list (lexeme_at text n (record { kind = kind; bytes = bytes }))) place
        ∙ sym (lexemes-more text (mark_len text) going.parts (record { kind = kind; bytes = bytes }));
    line_is = ap (λ n. n + count_by is_line_end bytes) going.line_is ∙ sym lines.1;
    line_small = omega (arith, going.line_small, count_by-le-length is_line_end bytes);
    front_is = going.front_is ∙ ap (λ tail. take at text ++ tail) rest-is ∙ sym (append_assoc (take at text) bytes after) ∙ ap (λ front. front ++ after) (sym lines.0);
    at_is = omega (arith, going.at_is, ap length rest-is, length-append bytes after);
  } where
    place : at ≡ mark_len text + bytes_of going.parts
    place = omega (arith, part-at)

  pub going-blank : IsPart None bytes after → Going text tokens (at + length bytes) (line + count_by is_line_end bytes) after
  going-blank is = going-more None tokens is (sym (append-nil (map lexeme_of tokens)))

  pub going-token : (token : Token) → IsPart (Some token.kind) bytes after → token.piece.now ≡ bytes → token.start ≡ at → token.line ≡ line
      → Going text (tokens ++ token ∷ []) (at + length bytes) (line + count_by is_line_end bytes) after
  going-token token is piece start on = going-more (Some token.kind) (tokens ++ token ∷ []) is
      (map-append lexeme_of tokens (token ∷ []) ∙ ap (λ lexeme. map lexeme_of tokens ++ lexeme ∷ []) same) where
        same : lexeme_of token ≡ record { kind = token.kind; piece = bytes; start = at; line = line_at text at }
        same = rw (piece, start, on, going.line_is) refl

-- bytes of which none passes
pub count-none : (p : ℕ → Bool) (xs : List ℕ) → list_all (λ x. not (p x)) xs ≡ true → count_by p xs ≡ 0
count-none p [] all = refl
count-none p (x ∷ xs) all =
    let here : p x ≡ false = false-of (p x) (λ yes. cc (yes, (both (not (p x)) (list_all (λ y. not (p y)) xs) all).0)) in
    sum_by-cons (λ y. cond (p y) 1 0) x xs ∙ rw here (rw (count-none p xs (both (not (p x)) (list_all (λ y. not (p y)) xs) all).1) refl)

doubled-passes : (p : ℕ → Bool) (xs : List ℕ) → list_all p xs ≡ true → list_all p (doubled xs) ≡ true
doubled-passes p [] all = refl
doubled-passes p (x ∷ xs) all =
    let here : p x ≡ true = (both (p x) (list_all p xs) all).0 in
    let below : list_all p (doubled xs) ≡ true = doubled-passes p xs (both (p x) (list_all p xs) all).1 in
    elim (is_quote x) as (λ q. list_all p (cond q (x ∷ x ∷ []) (x ∷ []) ++ doubled xs) ≡ true) [ true ↦ rw (here, below) refl | false ↦ rw (here, below) refl ]

plain-within_line : (b : ℕ) → is_plain b ≡ true → not (is_line_end b) ≡ true
plain-within_line b plain = rw other refl where
  other : is_line_end b ≡ false
  other = false-of (is_line_end b) (λ end. omega (arith, leb-true 32 b (both (nat_le 32 b) (not (eqb b 127)) plain).0, eqb-true b 10 end))

-- no line ends between the offset at which a text stops and that of the fault
fault-line : (text : List ℕ) (at : ℕ) (rest : List ℕ) (fault : LexFault) → text ≡ take at text ++ rest → at ≤ length text → Stops at rest (Some fault)
    → line_at text (place_of text (Some fault)) ≡ line_at text at
fault-line text at rest (BadByte place) text-is within stops = elim stops [
  | inl nothing ↦ ap (line_at text) nothing.1
  | inr (len, quote, there) ↦
      let front : text ≡ take at text ++ ((39 ∷ doubled quote.inside) ++ (quote.bad ∷ quote.after)) = text-is ∙ ap (λ tail. take at text ++ tail) quote.opens.is in
      let none : count_by is_line_end (39 ∷ doubled quote.inside) ≡ 0 =
      count-none is_line_end (39 ∷ doubled quote.inside) (doubled-passes (λ b. not (is_line_end b)) quote.inside (weaker is_plain (λ b. not (is_line_end b)) plain-within_line quote.inside quote.opens.plain)) in
      let before : at + len ≡ at + length (39 ∷ doubled quote.inside) = omega (arith, quote.before) in
      ap (line_at text) (there ∙ before) ∙ (line-more text at (39 ∷ doubled quote.inside) (quote.bad ∷ quote.after) front within).1 ∙ ap (λ n. line_at text at + n) none ∙ add-zero (line_at text at)
]
fault-line text at rest (OpenQuote place) text-is within stops = ap (line_at text) stops.1
fault-line text at rest (TooLong place) text-is within stops = ap (line_at text) stops.1
fault-line text at rest Memory text-is within stops = absurd stops

-- at the end of the text
pub reading-done : (text : List ℕ) (tokens : List Token) (at line : ℕ) (rest : List ℕ) → Going text tokens at line rest → length rest ≡ 0 → length text ≤ 2 ^ 30
    → IsReading text (lexed_of tokens (record { offset = length text; line = line })) None
unfolding most_text_bytes
reading-done text tokens at line rest going empty small = record {
  oversize = λ large. absurd (omega (arith, large, small));
  within = λ fits. (going.parts, rest, going.divided, going.tokens_are, nothing rest empty);
  end = ap (λ l. record { offset = length text; line = l }) (going.line_is ∙ ap (line_at text) (omega (arith, going.at_is, empty)));
}

-- at the first fault
pub reading-stopped : (text : List ℕ) (tokens : List Token) (at line : ℕ) (rest : List ℕ) (fault : LexFault) → Going text tokens at line rest → Stops at rest (Some fault)
    → length text ≤ 2 ^ 30 → IsReading text (lexed_of tokens (record { offset = place_of text (Some fault); line = line })) (Some fault)
unfolding most_text_bytes
reading-stopped text tokens at line rest fault going stops small = record {
  oversize = λ large. absurd (omega (arith, large, small));
  within = λ fits. (going.parts, rest, going.divided, going.tokens_are, subst (λ n. Stops n rest (Some fault)) place stops);
  end = ap (λ l. record { offset = place_of text (Some fault); line = l }) (going.line_is ∙ sym (fault-line text at rest fault going.front_is (omega (arith, going.at_is)) stops));
} where
  place : at ≡ length text - length rest
  place = omega (arith, going.at_is)

-- a text of too many bytes
pub reading-oversize : (text : List ℕ) (line : ℕ) → 2 ^ 30 < length text → line ≡ 1 + count_by is_line_end (take (2 ^ 30) text)
    → IsReading text (lexed_of [] (record { offset = 2 ^ 30; line = line })) (Some (TooLong (2 ^ 30)))
unfolding most_text_bytes
reading-oversize text line large line-is = record {
  oversize = λ _. (refl, refl);
  within = λ small. absurd (omega (arith, large, small));
  end = ap (λ l. record { offset = 2 ^ 30; line = l }) line-is;
}
