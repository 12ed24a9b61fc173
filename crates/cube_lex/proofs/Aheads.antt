-- The tokens of a text from a place on are known by how many they are.
use Rattle.std.proofs.Common.{◌≡◌, ℕ, ◌+◌, List, [], ◌∷◌, length, drop, sym, ap, ◌∙◌, subst, Option, Some, None}
use Rattle.std.proofs.Math.Logic.{∥∥₁_elim}
use Rattle.std.proofs.lemmas.List.{nil_from_length as nothing}
use Rattle.std.specs.List.{cons_option}
use Rattle.cube_lex.specs.Ahead.{Ahead, IsAhead, TokensFrom}
use Rattle.cube_lex.specs.AheadProp.{lexemes_set}
use Rattle.cube_lex.specs.Lexeme.{Lexeme}
use Rattle.cube_lex.specs.Parts.{Part, Divides}
use Rattle.cube_lex.specs.Reading.{lexeme_at, lexemes_among}
use Rattle.cube_lex.proofs.Unique.{part-only, part-is}

behind_length : (lexeme : Option Lexeme) (xs ys : List Lexeme) → length (cons_option lexeme xs) ≡ length (cons_option lexeme ys) → length xs ≡ length ys
behind_length None xs ys same = same
behind_length (Some x) xs ys same = cc

same_among : (text : List ℕ) (at : ℕ) (body : List ℕ) (ps qs : List Part) (rest tail : List ℕ) → Divides body ps rest → Divides body qs tail
    → length (lexemes_among text at ps) ≡ length (lexemes_among text at qs) → lexemes_among text at ps ≡ lexemes_among text at qs
same_among text at body [] qs rest tail x y same = sym (nothing (lexemes_among text at qs) (sym same))
same_among text at body (p ∷ ps) [] rest tail x y same = nothing (lexemes_among text at (p ∷ ps)) same
same_among text at body (p ∷ ps) (q ∷ qs) rest tail (next, x-is, x-part, x) (after, y-is, y-part, y) same =
    let one : (p.kind ≡ q.kind) × (p.bytes ≡ q.bytes) × (next ≡ after) = part-only p.kind q.kind p.bytes q.bytes next after x-part y-part (sym x-is ∙ y-is) in
    let part : p ≡ q = part-is p q one.0 one.1 in
    let along : Divides next qs tail = subst (λ bs. Divides bs qs tail) (sym one.2) y in
    let lengths : length (cons_option (lexeme_at text at p) (lexemes_among text (at + length p.bytes) ps)) ≡ length (cons_option (lexeme_at text at p) (lexemes_among text (at + length p.bytes) qs)) =
    same ∙ ap (λ r. length (lexemes_among text at (r ∷ qs))) (sym part) in
    let below : lexemes_among text (at + length p.bytes) ps ≡ lexemes_among text (at + length p.bytes) qs =
    same_among text (at + length p.bytes) next ps qs rest tail x along (behind_length (lexeme_at text at p) _ _ lengths) in
    ap (cons_option (lexeme_at text at p)) below ∙ ap (λ r. lexemes_among text at (r ∷ qs)) part

pub ahead_only : (text : List ℕ) (at line left : ℕ) (xs ys : List Lexeme) → Ahead text at line left xs → Ahead text at line left ys → xs ≡ ys
ahead_only text at line left xs ys x y =
    x.tokens_are ∙ same_among text at (drop at text) x.parts y.parts x.rest y.rest x.divided y.divided
    (ap length (sym x.tokens_are) ∙ sym x.left_is ∙ y.left_is ∙ ap length y.tokens_are) ∙ sym y.tokens_are

pub tokens_only : (text : List ℕ) (at line left : ℕ) (xs ys : List Lexeme) → IsAhead text at line left xs → IsAhead text at line left ys → xs ≡ ys
tokens_only text at line left xs ys h k =
    ∥∥₁_elim h (lexemes_set xs ys) (λ x. ∥∥₁_elim k (lexemes_set xs ys) (λ y. ahead_only text at line left xs ys x y))

-- so where there are such tokens there are the only ones
pub the_ahead : (text : List ℕ) (at line left : ℕ) (tokens : List Lexeme) → IsAhead text at line left tokens → TokensFrom text at line left
the_ahead text at line left tokens is = (tokens, (is, λ other other-is. tokens_only text at line left tokens other is other-is))
