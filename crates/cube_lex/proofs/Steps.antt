-- What is left of a text behind one part more.
use Rattle.std.proofs.Common.{◌≡◌, ℕ, ◌+◌, ◌-◌, ◌^◌, ◌<◌, ◌≤◌, List, [], ◌∷◌, ◌++◌, length, drop, take, refl, sym, ap, ◌∙◌, subst, arith, Option, Some, None, slice_get, length-append, length-drop, length-take, take-append-drop}
use Rattle.std.proofs.Math.Logic.{∥∥₁_elim, ∥∥₁_map}
use Rattle.std.proofs.Math.Seq.{drop-append_seam}
use Rattle.std.proofs.lemmas.List.{drop-drop}
use Rattle.std.specs.Coded.{×_prop, le_prop, Coded-set, coded_ℕ}
use Rattle.std.specs.List.{cons_option, count_by}
use Rattle.std.proofs.lemmas.List.Sums.{count_by-le-length}
use Rattle.cube_lex.specs.Ahead.{Ahead, IsAhead, TokensFrom}
use Rattle.cube_lex.specs.AheadProp.{lexemes_set}
use Rattle.cube_lex.specs.Bytes.{is_line_end, line_at}
use Rattle.cube_lex.specs.Fault.{Stops}
use Rattle.cube_lex.specs.Inside.Found.{IsFound}
use Rattle.cube_lex.specs.Lexeme.{Lexeme, lexeme_of}
use Rattle.cube_lex.specs.Parts.{Part, Divides, IsPart}
use Rattle.cube_lex.specs.Reading.{lexeme_at, lexemes_among}
use Rattle.cube_lex.specs.declared.fault.LexFault.{LexFault}
use Rattle.cube_lex.specs.declared.token.Kind.{Kind}
use Rattle.cube_lex.specs.declared.token.Token.{Token}
use Rattle.cube_lex.proofs.Readings.{line-more}
use Rattle.cube_lex.proofs.Unique.{part-only, part-is, stops-no_part}

-- What comes of the tokens behind a part.
pub record Behind (text : List ℕ) (at line : ℕ) (kind : Option Kind) (bytes : List ℕ) (tokens : List Lexeme) : Type 0 where
  pub more : List Lexeme
  pub tokens_are : tokens ≡ cons_option (lexeme_at text at (record { kind = kind; bytes = bytes })) more
  pub ahead : Ahead text (at + length bytes) (line + count_by is_line_end bytes) (length more) more

-- there is a part where tokens are left
module _ (text : List ℕ) (at line left : ℕ) (tokens : List Lexeme) (some : 0 < left) where
  pub some-part : Ahead text at line left tokens → (part : Part) × (parts : List Part) × (rest after : List ℕ) × (drop at text ≡ part.bytes ++ after) × IsPart part.kind part.bytes after × Divides after parts rest
      × (tokens ≡ cons_option (lexeme_at text at part) (lexemes_among text (at + length part.bytes) parts))
  some-part ahead = by_parts ahead.parts ahead.divided ahead.tokens_are where
    by_parts : (parts : List Part) → Divides (drop at text) parts ahead.rest → tokens ≡ lexemes_among text at parts
        → (part : Part) × (parts : List Part) × (rest after : List ℕ) × (drop at text ≡ part.bytes ++ after) × IsPart part.kind part.bytes after × Divides after parts rest
        × (tokens ≡ cons_option (lexeme_at text at part) (lexemes_among text (at + length part.bytes) parts))
    by_parts [] divided is = absurd (omega (arith, some, ahead.left_is, ap length is))
    by_parts (p ∷ ps) (after, body-is, part, divided) is = (p, ps, ahead.rest, after, body-is, part, divided, is)

  pub never-stops : Ahead text at line left tokens → (fault : Option LexFault) → Stops at (drop at text) fault → ⊥
  never-stops ahead fault stops =
      let p = some-part ahead in
      stops-no_part at (drop at text) fault p.0.kind p.0.bytes p.3 stops p.5 p.4

  pub behind-part : Ahead text at line left tokens → (kind : Option Kind) (bytes after : List ℕ) → drop at text ≡ bytes ++ after → IsPart kind bytes after → Behind text at line kind bytes tokens
  behind-part ahead kind bytes after rest-is is =
      let p = some-part ahead in
      let one : (p.0.kind ≡ kind) × (p.0.bytes ≡ bytes) × (p.3 ≡ after) = part-only p.0.kind kind p.0.bytes bytes p.3 after p.5 is (sym p.4 ∙ rest-is) in
      let part : p.0 ≡ record { kind = kind; bytes = bytes } = part-is p.0 (record { kind = kind; bytes = bytes }) one.0 one.1 in
      let len : length (drop at text) ≡ length text - at = length-drop at text in
      let fits : at + length bytes ≤ length text = omega (arith, ahead.within, len, ap length rest-is, length-append bytes after) in
      let behind : drop (at + length bytes) text ≡ after = sym (drop-drop (length bytes) at text) ∙ ap (drop (length bytes)) rest-is ∙ drop-append_seam bytes after in
      let lines = line-more text at bytes after (sym (take-append-drop at text) ∙ ap (λ tail. take at text ++ tail) rest-is) ahead.within in
      record {
        more = lexemes_among text (at + length bytes) p.1;
        tokens_are = p.7 ∙ ap (λ q. cons_option (lexeme_at text at q) (lexemes_among text (at + length q.bytes) p.1)) part;
        ahead = record {
          parts = p.1;
          rest = p.2;
          divided = subst (λ bs. Divides bs p.1 p.2) (one.2 ∙ sym behind) p.6;
          tokens_are = refl;
          left_is = refl;
          line_is = ap (λ n. n + count_by is_line_end bytes) ahead.line_is ∙ sym lines.1;
          within = fits;
          small = ahead.small;
        };
      }

-- where tokens stand
pub numbers : (text : List ℕ) (at line left : ℕ) (tokens : List Lexeme) → IsAhead text at line left tokens → (at ≤ length text) × ((line ≤ at + 1) × (length text ≤ 2 ^ 30))
numbers text at line left tokens is = ∥∥₁_elim is (×_prop le_prop (×_prop le_prop le_prop)) (λ a. (a.within, (line-small a, a.small))) where
  line-small : Ahead text at line left tokens → line ≤ at + 1
  line-small a = omega (arith, a.line_is, count_by-le-length is_line_end (take at text), length-take at text)

-- From the first place on only parts without a token were passed.
pub record Passing (text : List ℕ) (from first left at line : ℕ) (rest : List ℕ) : Type 0 where
  pub same : (tokens : List Lexeme) → Ahead text from first left tokens → Ahead text at line left tokens
  pub rest_is : drop at text ≡ rest
  pub at_is : at + length rest ≡ length text
  pub line_small : line ≤ at + 1
  pub small : length text ≤ 2 ^ 30

pub passing-init : (text : List ℕ) (at line left : ℕ) → TokensFrom text at line left → Passing text at line left at line (drop at text)
passing-init text at line left there =
    let facts = numbers text at line left there.0 there.1.0 in
    record {
      same = λ tokens a. a;
      rest_is = refl;
      at_is = omega (arith, length-drop at text, facts.0);
      line_small = facts.1.0;
      small = facts.1.1;
    }

module _ (text : List ℕ) (from first left at line : ℕ) (rest : List ℕ) (passing : Passing text from first left at line rest) (some : 0 < left) where
  pub passing-stops : TokensFrom text from first left → (fault : Option LexFault) → Stops at rest fault → ⊥
  passing-stops there fault stops = ∥∥₁_elim there.1.0 (λ x y. absurd x)
      (λ a. never-stops text at line left there.0 some (passing.same there.0 a) fault (subst (λ bs. Stops at bs fault) (sym passing.rest_is) stops))

  pub passing-blank : (bytes after : List ℕ) → rest ≡ bytes ++ after → IsPart None bytes after → Passing text from first left (at + length bytes) (line + count_by is_line_end bytes) after
  passing-blank bytes after rest-is is = record {
    same = λ tokens a. same tokens (behind-part text at line left tokens some (passing.same tokens a) None bytes after (passing.rest_is ∙ rest-is) is) (passing.same tokens a).left_is;
    rest_is = sym (drop-drop (length bytes) at text) ∙ ap (drop (length bytes)) (passing.rest_is ∙ rest-is) ∙ drop-append_seam bytes after;
    at_is = omega (arith, passing.at_is, ap length rest-is, length-append bytes after);
    line_small = omega (arith, passing.line_small, count_by-le-length is_line_end bytes);
    small = passing.small;
  } where
    same : (tokens : List Lexeme) → Behind text at line None bytes tokens → left ≡ length tokens → Ahead text (at + length bytes) (line + count_by is_line_end bytes) left tokens
    same tokens behind left-is =
        subst (λ n. Ahead text (at + length bytes) (line + count_by is_line_end bytes) n tokens) (sym left-is)
        (subst (λ ts. Ahead text (at + length bytes) (line + count_by is_line_end bytes) (length ts) ts) (sym behind.tokens_are) behind.ahead)

  pub passing-found : (bytes after : List ℕ) → rest ≡ bytes ++ after → (token : Token) → IsPart (Some token.kind) bytes after → token.piece.now ≡ bytes → token.start ≡ at → token.line ≡ line
      → IsFound text from first left (Some (record { token = token; at = at + length bytes; line = line + count_by is_line_end bytes }))
  passing-found bytes after rest-is token is piece start on = (
    some,
    λ tokens there. (
      ∥∥₁_elim there (lexemes_set tokens (lexeme_of token ∷ drop 1 tokens)) (λ a. (taken tokens a).0),
      ∥∥₁_map there (λ a. (taken tokens a).1),
    ),
  ) where
    taken : (tokens : List Lexeme) → Ahead text from first left tokens → (tokens ≡ lexeme_of token ∷ drop 1 tokens) × Ahead text (at + length bytes) (line + count_by is_line_end bytes) (left - 1) (drop 1 tokens)
    taken tokens a =
        let here : Ahead text at line left tokens = passing.same tokens a in
        let behind = behind-part text at line left tokens some here (Some token.kind) bytes after (passing.rest_is ∙ rest-is) is in
        let lexeme : lexeme_of token ≡ record { kind = token.kind; piece = bytes; start = at; line = line_at text at } = rw (piece, start, on, here.line_is) refl in
        let front : tokens ≡ lexeme_of token ∷ behind.more = behind.tokens_are ∙ ap (λ l. l ∷ behind.more) (sym lexeme) in
        let rest-are : drop 1 tokens ≡ behind.more = ap (drop 1) front in
        let count : left - 1 ≡ length behind.more = omega (arith, here.left_is, ap length front) in (
          front ∙ ap (λ ts. lexeme_of token ∷ ts) (sym rest-are),
          subst (λ ts. Ahead text (at + length bytes) (line + count_by is_line_end bytes) (left - 1) ts) (sym rest-are)
              (subst (λ n. Ahead text (at + length bytes) (line + count_by is_line_end bytes) n behind.more) (sym count) behind.ahead),
        )

-- how many are left
pub count-is : (text : List ℕ) (at line left : ℕ) (tokens : List Lexeme) → IsAhead text at line left tokens → left ≡ length tokens
count-is text at line left tokens is = ∥∥₁_elim is (Coded-set coded_ℕ left (length tokens)) (λ a. a.left_is)

-- what is first, and what comes behind it
pub none-first : (tokens : List Lexeme) → length tokens ≡ 0 → (None ≡ slice_get tokens 0) × (tokens ≡ drop 1 tokens)
none-first [] none = (refl, refl)
none-first (t ∷ ts) none = absurd (omega (arith, none))

pub some-first : (tokens more : List Lexeme) (lexeme : Lexeme) → tokens ≡ lexeme ∷ more → Some lexeme ≡ slice_get tokens 0
some-first tokens more lexeme is = ap (λ ts. slice_get ts 0) (sym is)

-- of no text nothing is left
pub none-ahead : Ahead [] 0 1 0 []
none-ahead = record {
  parts = [];
  rest = [];
  divided = refl;
  tokens_are = refl;
  left_is = refl;
  line_is = refl;
  within = omega arith;
  small = omega arith;
}
