-- The loop over the parts of a text that counts its tokens.
use Rattle.std.proofs.Common.{◌≡◌, ℕ, ◌+◌, ◌^◌, ◌≤◌, List, [], ◌∷◌, ◌++◌, length, map, drop, refl, sym, ◌∙◌, arith, length-append, None, Some, Option}
use Rattle.std.proofs.lemmas.List.{length-map}
use Rattle.std.specs.List.{count_by}
use Rattle.cube_lex.specs.Ahead.{Ahead}
use Rattle.cube_lex.specs.Bytes.{is_line_end}
use Rattle.cube_lex.specs.Fault.{Stops, place_of}
use Rattle.cube_lex.specs.Inside.Counted.{Counts}
use Rattle.cube_lex.specs.Lexeme.{Lexeme, lexeme_of}
use Rattle.cube_lex.specs.Parts.{IsPart}
use Rattle.cube_lex.specs.Reading.{IsReading, mark_len, most_text_bytes}
use Rattle.cube_lex.specs.declared.fault.LexFault.{LexFault}
use Rattle.cube_lex.specs.declared.position.Position.{Position}
use Rattle.cube_lex.specs.declared.token.Token.{Token}
use Rattle.cube_lex.proofs.Readings.{Going, going-init, going-blank, going-token, reading-done, reading-stopped, mark-facts}

-- So far the text has so many tokens; the rest begins at this offset and on this line.
pub record Counting (text : List ℕ) (count at line : ℕ) (rest : List ℕ) : Type 0 where
  pub tokens : List Token
  pub going : Going text tokens at line rest
  pub count_is : count ≡ length tokens
  pub few : count ≤ at
  pub line_small : line ≤ at + 1
  pub at_is : at + length rest ≡ length text

counting : (text : List ℕ) (tokens : List Token) (count at line : ℕ) (rest : List ℕ) → Going text tokens at line rest → count ≡ length tokens → count ≤ at → Counting text count at line rest
counting text tokens count at line rest going count-is few =
    record { tokens = tokens; going = going; count_is = count-is; few = few; line_small = going.line_small; at_is = going.at_is }

pub counting-init : (text : List ℕ) → Counting text 0 (mark_len text) 1 (drop (mark_len text) text)
counting-init text = counting text [] 0 (mark_len text) 1 _ (going-init text) refl (omega arith)

module _ (text : List ℕ) (count at line : ℕ) (rest bytes after : List ℕ) (so_far : Counting text count at line rest) (rest-is : rest ≡ bytes ++ after) where
  pub counting-blank : IsPart None bytes after → Counting text count (at + length bytes) (line + count_by is_line_end bytes) after
  counting-blank is = counting text so_far.tokens count (at + length bytes) (line + count_by is_line_end bytes) after
      (going-blank text so_far.tokens at line rest bytes after so_far.going rest-is is) so_far.count_is (omega (arith, so_far.few))

  pub counting-token : (token : Token) → IsPart (Some token.kind) bytes after → token.piece.now ≡ bytes → token.start ≡ at → token.line ≡ line → (bytes ≡ [] → ⊥)
      → Counting text (count + 1) (at + length bytes) (line + count_by is_line_end bytes) after
  counting-token token is piece start on some = counting text (so_far.tokens ++ token ∷ []) (count + 1) (at + length bytes) (line + count_by is_line_end bytes) after
      (going-token text so_far.tokens at line rest bytes after so_far.going rest-is token is piece start on)
      (omega (arith, so_far.count_is, length-append so_far.tokens (token ∷ [])))
      (omega (arith, so_far.few, one-at-least bytes some)) where
        one-at-least : (bytes : List ℕ) → (bytes ≡ [] → ⊥) → 1 ≤ length bytes
        one-at-least [] some = absurd (some refl)
        one-at-least (b ∷ bs) some = omega arith

pub counted-done : (text : List ℕ) (count at line : ℕ) (rest : List ℕ) → Counting text count at line rest → length rest ≡ 0 → length text ≤ 2 ^ 30
    → Counts text (record { tokens = count; end = record { offset = length text; line = line }; fault = None })
counted-done text count at line rest so_far empty small = (
  map lexeme_of so_far.tokens,
  reading-done text so_far.tokens at line rest so_far.going empty small,
  so_far.count_is ∙ sym (length-map so_far.tokens lexeme_of),
)

pub counted-stopped : (text : List ℕ) (count at line : ℕ) (rest : List ℕ) (fault : LexFault) → Counting text count at line rest → Stops at rest (Some fault) → length text ≤ 2 ^ 30
    → Counts text (record { tokens = count; end = record { offset = place_of text (Some fault); line = line }; fault = Some fault })
counted-stopped text count at line rest fault so_far stops small = (
  map lexeme_of so_far.tokens,
  reading-stopped text so_far.tokens at line rest fault so_far.going stops small,
  so_far.count_is ∙ sym (length-map so_far.tokens lexeme_of),
)

-- what is read of a text stands behind its mark
pub reading-ahead : (text : List ℕ) (count : ℕ) (end : Position) (lexemes : List Lexeme) (fault : Option LexFault) → length text ≤ 2 ^ 30
    → IsReading text (record { lexemes = lexemes; end = end }) fault → count ≡ length lexemes → Ahead text (mark_len text) 1 count lexemes
unfolding most_text_bytes
reading-ahead text count end lexemes fault small is count-is =
    let (parts, rest, divided, lexemes-are, stops) = is.within small in
    record {
      parts = parts;
      rest = rest;
      divided = divided;
      tokens_are = lexemes-are;
      left_is = count-is;
      line_is = sym (mark-facts text).1;
      within = (mark-facts text).0;
      small = small;
    }
