-- A word in capitals is one word where its letters are that word's, in either case.
use Rattle.std.proofs.Common.{◌≡◌, ℕ, List, [], ◌∷◌, Some, None, true, ◌&&◌, if◌then◌else◌, refl, sym, ◌∙◌, ap, arith}
use Rattle.std.specs.Char.{to_ascii_uppercase, to_ascii_lowercase}
use Rattle.std.specs.Str.{bytes_eq, str_eq_ignore_ascii_case, str_to_ascii_lowercase}
use Rattle.std.proofs.lemmas.Bool.Decides.{nat_tests}
use Rattle.std.proofs.lemmas.Slice.Eq.{bytes_eq-Decides}
use Rattle.std.proofs.lemmas.Str.Ascii.{lowercase-uppercase}
use Rattle.cube_lex.specs.Lexeme.{Lexeme}
use Rattle.cube_lex.specs.Positions.{position_of}
use Rattle.cube_lex.specs.declared.position.Position.{Position}
use Rattle.grammar.specs.Grammar.{one}
use Rattle.grammar.specs.Tokens.{word, is_word, is_word_kind, capitals, capital_word}
use Rattle.grammar.proofs.Tokens.{when_picks, and_is, bytes_eq_self}

uppercase-lowercase : (c : ℕ) → to_ascii_uppercase (to_ascii_lowercase c) ≡ to_ascii_uppercase c
uppercase-lowercase c = grind (arith, nat_tests)

lowercase_capitals : (piece : List ℕ) → str_to_ascii_lowercase (capitals piece) ≡ str_to_ascii_lowercase piece
lowercase_capitals [] = refl
lowercase_capitals (c ∷ piece) = ap (λ d. d ∷ str_to_ascii_lowercase (capitals piece)) (lowercase-uppercase c) ∙ ap (λ l. to_ascii_lowercase c ∷ l) (lowercase_capitals piece)

capitals_lowercase : (piece : List ℕ) → capitals (str_to_ascii_lowercase piece) ≡ capitals piece
capitals_lowercase [] = refl
capitals_lowercase (c ∷ piece) = ap (λ d. d ∷ capitals (str_to_ascii_lowercase piece)) (uppercase-lowercase c) ∙ ap (λ l. to_ascii_uppercase c ∷ l) (capitals_lowercase piece)

-- what a word in capitals is, it is in either case
pub word_of_capitals : (w : List ℕ) (t : Lexeme) (function : List ℕ) → capital_word t ≡ Some function → bytes_eq function w ≡ true → word w t ≡ Some (position_of t)
word_of_capitals w t function picks same =
    let (kind, is) = when_picks (λ t. is_word_kind t.kind) (λ t. capitals t.piece) t function picks in
    let lower : str_to_ascii_lowercase t.piece ≡ str_to_ascii_lowercase w = sym (lowercase_capitals t.piece) ∙ ap str_to_ascii_lowercase (is ∙ (bytes_eq-Decides function w).0 same) in
    let spelled : str_eq_ignore_ascii_case t.piece w ≡ true = ap (λ l. bytes_eq l (str_to_ascii_lowercase w)) lower ∙ bytes_eq_self (str_to_ascii_lowercase w) in
    ap (λ b. if b && str_eq_ignore_ascii_case t.piece w then Some (position_of t) else None) kind ∙ ap (λ b. if b then Some (position_of t) else None) spelled

-- a word of capitals, in capitals
pub capitals_of_word : (w : List ℕ) → capitals w ≡ w → (t : Lexeme) (at : Position) → word w t ≡ Some at → capital_word t ≡ Some w
capitals_of_word w capital t at picks =
    let (is, _) = when_picks (is_word w) position_of t at picks in
    let (kind, spelled) = and_is (is_word_kind t.kind) (str_eq_ignore_ascii_case t.piece w) is in
    let upper : capitals t.piece ≡ w = sym (capitals_lowercase t.piece) ∙ ap capitals ((bytes_eq-Decides (str_to_ascii_lowercase t.piece) (str_to_ascii_lowercase w)).0 spelled) ∙ capitals_lowercase w ∙ capital in
    ap (λ b. if b then Some (capitals t.piece) else None) kind ∙ ap (λ l. Some l) upper

-- the same of texts of one token
pub one_word : (w : List ℕ) (u : List Lexeme) (function : List ℕ) → bytes_eq function w ≡ true → one capital_word u function → (at : Position) × one (word w) u at
one_word w u function same (t, is, picks) = (position_of t, (t, is, word_of_capitals w t function picks same))

pub one_capital_word : (w : List ℕ) → capitals w ≡ w → (u : List Lexeme) (at : Position) → one (word w) u at → one capital_word u w
one_capital_word w capital u at (t, is, picks) = (t, is, capitals_of_word w capital t at picks)
