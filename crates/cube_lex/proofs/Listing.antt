-- From the place of a listed token on, the listed tokens behind it stand in the text.
use Rattle.std.proofs.Common.{◌≡◌, ℕ, zero, suc, ◌+◌, ◌<◌, ◌≤◌, ◌^◌, List, [], ◌∷◌, length, map, drop, refl, sym, ap, ◌∙◌, subst, arith, Option, Some, None, slice_get, length-append, length-drop}
use Rattle.std.proofs.Math.Seq.{drop-append_seam}
use Rattle.std.proofs.lemmas.List.{drop-drop}
use Rattle.std.proofs.lemmas.List.Elements.{All-nil}
use Rattle.std.specs.List.{cons_option}
use Rattle.cube_lex.specs.Ahead.{Ahead}
use Rattle.cube_lex.specs.Bytes.{line_at}
use Rattle.cube_lex.specs.Lexed.{IsWellFormed}
use Rattle.cube_lex.specs.Lexeme.{Lexeme, lexeme_of}
use Rattle.cube_lex.specs.Listed.{AreListed}
use Rattle.cube_lex.specs.Parts.{Part, Divides}
use Rattle.cube_lex.specs.Reading.{lexeme_at, lexemes_among, mark_len}
use Rattle.cube_lex.specs.declared.token.Kind.{Kind}
use Rattle.cube_lex.specs.declared.token.Token.{Token}
use Rattle.cube_lex.proofs.Readings.{Going, going-formed, mark-facts}

lexeme-place : (text : List ℕ) (at : ℕ) (kind : Option Kind) (bytes : List ℕ) (l : Lexeme) → lexeme_at text at (record { kind = kind; bytes = bytes }) ≡ Some l → (l.start ≡ at) × (l.line ≡ line_at text at)
lexeme-place text at None bytes l is = absurd (cc (is))
lexeme-place text at (Some kind) bytes l is =
    let same : record { kind = kind; piece = bytes; start = at; line = line_at text at } ≡ l = cc in
    (ap (λ x. x.start) (sym same), ap (λ x. x.line) (sym same))

-- from an offset on
abbrev Below : (text : List ℕ) (at : ℕ) (parts : List Part) (rest : List ℕ) (left : ℕ) (t : Lexeme) → Type 0
Below text at parts rest left t = at ≤ length text → Divides (drop at text) parts rest → (i : ℕ) → slice_get (lexemes_among text at parts) i ≡ Some t
    → left + i ≡ length (lexemes_among text at parts) → Ahead text t.start t.line left (drop i (lexemes_among text at parts))

among-from : (text : List ℕ) (at : ℕ) (parts : List Part) (rest : List ℕ) → at ≤ length text → length text ≤ 2 ^ 30 → Divides (drop at text) parts rest
    → (i left : ℕ) (t : Lexeme) → slice_get (lexemes_among text at parts) i ≡ Some t → left + i ≡ length (lexemes_among text at parts)
    → Ahead text t.start t.line left (drop i (lexemes_among text at parts))
among-from text at [] rest within small divided i left t here count = absurd (cc (here))
among-from text at (p ∷ ps) rest within small (after, is, part, divided) i left t here count =
    by_lexeme (λ fits more j. among-from text (at + length p.bytes) ps rest fits small more j left t) (lexeme_at text at p) refl i here count where
      fits : at + length p.bytes ≤ length text
      fits = omega (arith, within, length-drop at text, ap length is, length-append p.bytes after)

      behind : drop (at + length p.bytes) text ≡ after
      behind = sym (drop-drop (length p.bytes) at text) ∙ ap (drop (length p.bytes)) is ∙ drop-append_seam p.bytes after

      by_lexeme : Below text (at + length p.bytes) ps rest left t → (lexeme : Option Lexeme) → lexeme_at text at p ≡ lexeme → (i : ℕ) → slice_get (cons_option lexeme (lexemes_among text (at + length p.bytes) ps)) i ≡ Some t
          → left + i ≡ length (cons_option lexeme (lexemes_among text (at + length p.bytes) ps))
          → Ahead text t.start t.line left (drop i (cons_option lexeme (lexemes_among text (at + length p.bytes) ps)))
      by_lexeme below None e i here count = below fits (subst (λ bs. Divides bs ps rest) (sym behind) divided) i here count
      by_lexeme below (Some l) e zero here count =
          let place : (l.start ≡ at) × (l.line ≡ line_at text at) = lexeme-place text at p.kind p.bytes l e in
          let same : l ≡ t = cc in
          let start : t.start ≡ at = ap (λ x. x.start) (sym same) ∙ place.0 in
          let line : t.line ≡ line_at text at = ap (λ x. x.line) (sym same) ∙ place.1 in
          rw (start, line) (record {
            parts = p ∷ ps;
            rest = rest;
            divided = (after, is, part, divided);
            tokens_are = ap (λ o. cons_option o (lexemes_among text (at + length p.bytes) ps)) (sym e);
            left_is = omega (arith, count);
            line_is = refl;
            within = within;
            small = small;
          })
      by_lexeme below (Some l) e (suc i) here count = below fits (subst (λ bs. Divides bs ps rest) (sym behind) divided) i here (omega (arith, count))

pub listed-ahead : (text : List ℕ) (tokens : List Lexeme) (i left : ℕ) (t : Lexeme) → AreListed text tokens → slice_get tokens i ≡ Some t → left + i ≡ length tokens → Ahead text t.start t.line left (drop i tokens)
listed-ahead text tokens i left t listed here count =
    subst (λ ts. Ahead text t.start t.line left (drop i ts)) (sym listed.tokens_are)
    (among-from text (mark_len text) listed.parts listed.rest (mark-facts text).0 listed.small listed.divided i left t
    (ap (λ ts. slice_get ts i) (sym listed.tokens_are) ∙ here) (count ∙ ap length listed.tokens_are))

pub some-within : {A : Type 0} (xs : List A) (i : ℕ) (x : A) → slice_get xs i ≡ Some x → i < length xs
some-within [] i x here = absurd (cc (here))
some-within (y ∷ ys) zero x here = omega arith
some-within (y ∷ ys) (suc i) x here = omega (arith, some-within ys i x here)

pub none-behind : {A : Type 0} (xs : List A) (i : ℕ) → slice_get xs i ≡ None → drop i xs ≡ []
none-behind [] zero here = refl
none-behind [] (suc i) here = refl
none-behind (y ∷ ys) zero here = absurd (cc (here))
none-behind (y ∷ ys) (suc i) here = none-behind ys i here

-- what was read so far can be listed
pub going-listed : (text : List ℕ) (tokens : List Token) (at line : ℕ) (rest : List ℕ) → Going text tokens at line rest → length text ≤ 2 ^ 30 → AreListed text (map lexeme_of tokens)
going-listed text tokens at line rest going small = record {
  well_formed = going-formed text tokens at line rest going;
  parts = going.parts;
  rest = rest;
  divided = going.divided;
  tokens_are = going.tokens_are;
  small = small;
}

-- of no text there are no tokens
pub none-listed : AreListed [] []
none-listed = record {
  well_formed = All-nil IsWellFormed;
  parts = [];
  rest = [];
  divided = refl;
  tokens_are = refl;
  small = omega arith;
}
