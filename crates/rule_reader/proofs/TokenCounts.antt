-- A text that is read has no more tokens than a text may have bytes.
use Rattle.std.proofs.Common.{◌≡◌, ◌≤◌, ◌<◌, ◌+◌, ℕ, zero, suc, true, false, not, ◌==◌, List, [], ◌∷◌, length, get_or, drop, Option, Some, None, inl, inr, refl, ap, leb, length-append, length-drop, arith}
use Rattle.std.proofs.lemmas.Bool.{leb-true, leb-false, and_parts}
use Rattle.std.specs.List.{cons_option, list_all}
use Rattle.cube_lex.specs.Lexed.{Lexed}
use Rattle.cube_lex.specs.Lexeme.{Lexeme}
use Rattle.cube_lex.specs.Parts.{Part, Divides, IsPart, IsToken, IsDigits, Stands, signs}
use Rattle.cube_lex.specs.Reading.{mark_len, lexeme_at, lexemes_among, IsRead, IsReading, most_text_bytes}
use Rattle.cube_lex.specs.declared.token.Kind.{Kind}
use Rattle.cube_lex.specs.declared.token.Kind.TheVariants.{Word, Number, Text, Sign}

-- Each token has a byte.

is_some : (s : List ℕ) → not (length s == 0) ≡ true → 1 ≤ length s
is_some [] e = absurd (cc e)
is_some (b ∷ bs) e = omega arith

some_in : (table : List (List ℕ)) → list_all (λ s. not (length s == 0)) table ≡ true → (k : ℕ) (x : List ℕ) → k < length table → 1 ≤ length (get_or table k x)
some_in [] e k x below = absurd (omega (arith, below))
some_in (s ∷ table) e zero x below = is_some s (and_parts (not (length s == 0)) (list_all (λ s. not (length s == 0)) table) e).0
some_in (s ∷ table) e (suc k) x below = some_in table (and_parts (not (length s == 0)) (list_all (λ s. not (length s == 0)) table) e).1 k x (omega (arith, below))

digits_some : (bytes : List ℕ) → IsDigits bytes → 1 ≤ length bytes
digits_some [] is = absurd is
digits_some (b ∷ bs) is = omega arith

token_some : (kind : Kind) (bytes : List ℕ) → IsToken kind bytes → 1 ≤ length bytes
token_some Word [] is = absurd is
token_some Word (b ∷ bs) is = omega arith
token_some Number bytes (inl digits) = digits_some bytes digits
token_some Number bytes (inr (whole, fraction, first, last, is)) = omega (arith, ap length is, length-append whole (46 ∷ fraction))
token_some Text bytes (inside, plain, is) = omega (arith, ap length is)
token_some Sign bytes (k, below, is) = omega (arith, some_in signs refl k bytes below, ap length is)

stands_token : (kind : Kind) (bytes after : List ℕ) → Stands kind bytes after → IsToken kind bytes
stands_token Word bytes after is = is.0
stands_token Number bytes after is = is.0
stands_token Text bytes after is = is.0
stands_token Sign bytes after is = is.0

onto_few : (text : List ℕ) (at : ℕ) (kind : Option Kind) (bytes after : List ℕ) (more : List Lexeme) → IsPart kind bytes after → length (cons_option (lexeme_at text at (record { kind = kind; bytes = bytes })) more) ≤ length bytes + length more
onto_few text at None bytes after more is = omega arith
onto_few text at (Some kind) bytes after more is = omega (arith, token_some kind bytes (stands_token kind bytes after is.0))

among_few : (text : List ℕ) (at : ℕ) (parts : List Part) (body rest : List ℕ) → Divides body parts rest → length (lexemes_among text at parts) ≤ length body
among_few text at [] body rest divided = omega arith
among_few text at (part ∷ parts) body rest (after, is, whole, divided) =
    let more = lexemes_among text (at + length part.bytes) parts in
    omega (arith, onto_few text at part.kind part.bytes after more whole, among_few text (at + length part.bytes) parts after rest divided, ap length is, length-append part.bytes after)

read_few : (text : List ℕ) (tokens : List Lexeme) → IsRead text tokens None → length tokens ≤ length text
read_few text tokens (parts, rest, divided, is, stops) = omega (arith, among_few text (mark_len text) parts (drop (mark_len text) text) rest divided, ap length is, length-drop (mark_len text) text)

pub few_tokens : (text : List ℕ) (lexed : Lexed) → IsReading text lexed None → length lexed.lexemes ≤ most_text_bytes
few_tokens text lexed is = elim (leb (length text) most_text_bytes) as (λ small. leb (length text) most_text_bytes ≡ small → length lexed.lexemes ≤ most_text_bytes) [
  | true ↦ λ e. let small = leb-true (length text) most_text_bytes e in omega (arith, read_few text lexed.lexemes (is.within small), small)
  | false ↦ λ e. omega (arith, ap length (is.oversize (leb-false (length text) most_text_bytes e)).0)
] refl
