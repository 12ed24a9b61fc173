-- Words, numbers, names and lists, written again.
use Rattle.std.proofs.Common.{◌≡◌, ℕ, ℤ, List, [], ◌∷◌, Bool, true, false, Option, Some, None, Ok, Err, ◌&&◌, if◌then◌else◌, refl, sym, ap, ◌∙◌, subst, inl, inr, codes}
use Rattle.std.proofs.lemmas.Bool.{and_from, cond-true, leb-true}
use Rattle.std.proofs.lemmas.Str.Ascii.{uppercase-uppercase}
use Rattle.std.specs.Char.{to_ascii_uppercase}
use Rattle.std.specs.List.{flat_map}
use Rattle.std.specs.Result.{result_ok}
use Rattle.std.specs.Str.{str_eq_ignore_ascii_case, str_to_ascii_lowercase}
use Rattle.cube_fixed.specs.Range.{is_in_range}
use Rattle.cube_fixed.specs.Text.{number_of, reading_of}
use Rattle.cube_fixed.specs.declared.reading.NumberFault.{NumberFault}
use Rattle.cube_fixed.specs.declared.reading.NumberFault.TheVariants.{TooLarge}
use Rattle.cube_fixed.proofs.RoundTrip.{number_of-printed}
use Rattle.cube_lex.specs.Lexeme.{Lexeme}
use Rattle.cube_lex.specs.Quoted.{unquoted}
use Rattle.cube_lex.specs.Written.{Spelling, spelling_of, text_token, word_token}
use Rattle.cube_lex.proofs.Quotes.{unquoted-quoted}
use Rattle.cube_lex.specs.Positions.{position_of}
use Rattle.cube_lex.specs.declared.position.Position.{Position}
use Rattle.dim_name.specs.Name.{is_name}
use Rattle.grammar.specs.Grammar.{Grammar, one, both, many}
use Rattle.grammar.specs.Tokens.{is_word_kind, is_text_kind, is_number_kind, is_word, capitals, sign, word, name, text, money, capital_word}
use Rattle.grammar.proofs.Tokens.{when_picks, and_is, bytes_eq_self}
use Rattle.grammar.proofs.Spells.{split_at, none_spelled}
use Rattle.expression_grammar.proofs.PrintedTokens.{split_next, Spells, Picks, spells_done, spells_one, spells_both, spells_next, spells_made, spells_left, spells_right, picks_sign}
use Rattle.grammar.specs.Lists.{listed, perhaps_listed}
use Rattle.rule_tree.specs.Formula.{word_name}
use Rattle.rule_printer.specs.Spelled.{money_token, next_spelled, listed_spelled, name_spelled}

-- One token.

pub is_written_word : (w : List ℕ) (t : Lexeme) → spelling_of t ≡ word_token w → is_word w t ≡ true
is_written_word w t e =
    let kind : is_word_kind t.kind ≡ true = ap (λ s. is_word_kind s.kind) e in
    let piece : str_eq_ignore_ascii_case t.piece w ≡ true = ap (λ s. str_eq_ignore_ascii_case s.piece w) e ∙ bytes_eq_self (str_to_ascii_lowercase w) in
    and_from _ _ kind piece

-- a word whose place isn't asked for
pub spells_word : {A : Type 0} {K : Position → Grammar Lexeme A} {ys : List Spelling} {b : A} (w : List ℕ) → ((at : Position) → Spells (K at) ys b) → Spells (both (one (word w)) K) (word_token w ∷ ys) b
spells_word {ys = ys} w k = record {
  at = λ ts e. (
      let (t, v, is, first, rest) = split_next ts (word_token w) ys e in
      (t ∷ [], v, (position_of t), is, (t, refl, cond-true _ (Some (position_of t)) _ (is_written_word w t first)), (k (position_of t)).at v rest));
}

pub picks_text : (bytes : List ℕ) → Picks text (text_token bytes) bytes
picks_text bytes = record {
  at = λ t e. (
      let kind : is_text_kind t.kind ≡ true = ap (λ x. is_text_kind x.kind) e in
      let same : unquoted t.piece ≡ bytes = ap (λ x. unquoted x.piece) e ∙ unquoted-quoted bytes in
      cond-true _ (Some (unquoted t.piece)) _ kind ∙ ap Some same);
}

pub picks_name : (bytes : List ℕ) → is_name bytes ≡ true → Picks name (text_token bytes) bytes
picks_name bytes is = record {
  at = λ t e. (
      let kind : is_text_kind t.kind ≡ true = ap (λ x. is_text_kind x.kind) e in
      let same : unquoted t.piece ≡ bytes = ap (λ x. unquoted x.piece) e ∙ unquoted-quoted bytes in
      let named : is_name (unquoted t.piece) ≡ true = ap is_name same ∙ is in
      cond-true _ (Some (unquoted t.piece)) _ (and_from _ _ kind named) ∙ ap Some same);
}

pub picks_word_name : (bytes : List ℕ) → is_name bytes ≡ true → Picks word_name (word_token bytes) bytes
picks_word_name bytes is = record {
  at = λ t e. (
      let kind : is_word_kind t.kind ≡ true = ap (λ x. is_word_kind x.kind) e in
      let same : t.piece ≡ bytes = ap (λ x. x.piece) e in
      let named : is_name t.piece ≡ true = ap is_name same ∙ is in
      cond-true _ (Some t.piece) _ (and_from _ _ kind named) ∙ ap Some same);
}

twice_capital : (bytes : List ℕ) → capitals (capitals bytes) ≡ capitals bytes
twice_capital [] = refl
twice_capital (b ∷ bytes) = ap (λ c. c ∷ capitals (capitals bytes)) (uppercase-uppercase b) ∙ ap (λ l. to_ascii_uppercase b ∷ l) (twice_capital bytes)

pub picks_capitals : (bytes function : List ℕ) → capitals bytes ≡ function → Picks capital_word (word_token function) function
picks_capitals bytes function is = record {
  at = λ t e. (
      let kind : is_word_kind t.kind ≡ true = ap (λ x. is_word_kind x.kind) e in
      let same : capitals t.piece ≡ function = ap (λ x. capitals x.piece) e ∙ ap capitals (sym is) ∙ twice_capital bytes ∙ is in
      cond-true _ (Some (capitals t.piece)) _ kind ∙ ap Some same);
}

-- what money picks is in range
reading_is : (o : Option ℤ) (z : ℤ) → result_ok (reading_of o) ≡ Some z → (is_in_range z ≡ true) × (o ≡ Some z)
reading_is None z e = cc
reading_is (Some y) z e = in_range (is_in_range y) refl e where
  in_range : (b : Bool) → is_in_range y ≡ b → result_ok {E = NumberFault} (if b then Ok y else Err TooLarge) ≡ Some z → (is_in_range z ≡ true) × (◌≡◌ {A = Option ℤ} (Some y) (Some z))
  in_range true is e = let same : y ≡ z = cc in (subst (λ x. is_in_range x ≡ true) same is, ap Some same)
  in_range false is e = cc

money_is : (t : Lexeme) (z : ℤ) (b : Bool) → is_number_kind t.kind ≡ b → (if b then result_ok (reading_of (number_of t.piece)) else None) ≡ Some z → (is_number_kind t.kind ≡ true) × (is_in_range z ≡ true) × (number_of t.piece ≡ Some z)
money_is t z true kind e = let (within, says) = reading_is (number_of t.piece) z e in (kind, within, says)
money_is t z false kind e = cc

pub money_picks : (t : Lexeme) (z : ℤ) → money t ≡ Some z → (is_number_kind t.kind ≡ true) × (is_in_range z ≡ true) × (number_of t.piece ≡ Some z)
money_picks t z e = money_is t z (is_number_kind t.kind) refl e

pub picks_money : (z : ℤ) → is_in_range z ≡ true → Picks money (money_token z) z
picks_money z within = record {
  at = λ t e. (
      let kind : is_number_kind t.kind ≡ true = ap (λ x. is_number_kind x.kind) e in
      let says : number_of t.piece ≡ Some z = ap (λ x. number_of x.piece) e ∙ number_of-printed z (leb-true _ _ within) in
      rw (kind, says, within) refl);
}

-- Lists.

pub many_again : {A : Type 0} (G : Grammar Lexeme A) (f : A → List Spelling) → ((u : List Lexeme) (a : A) → G u a → Spells G (f a) a) → (list : List A) (u : List Lexeme) → many G u list → Spells (many G) (flat_map f list) list
many_again G f each [] u h = record { at = λ ts e. none_spelled ts e }
many_again G f each (a ∷ list) u (v, w, parts, h, more) = record {
  at = λ ts e. (
      let (x, y, is, front, back) = split_at ts (f a) (flat_map f list) e in
      (x, y, is, (each v a h).at x front, (many_again G f each list w more).at y back));
}

comma_again : {A : Type 0} (G : Grammar Lexeme A) (f : A → List Spelling) → ((u : List Lexeme) (a : A) → G u a → Spells G (f a) a) → (u : List Lexeme) (a : A) → both (one (sign (codes ","))) (λ _. G) u a → Spells (both (one (sign (codes ","))) (λ _. G)) (next_spelled f a) a
comma_again G f each u a (v, w, x, parts, is, h) = spells_next (picks_sign (codes ",")) (each w a h)

pub listed_again : {A : Type 0} (F G : Grammar Lexeme A) (f : A → List Spelling) → ((u : List Lexeme) (a : A) → F u a → Spells F (f a) a) → ((u : List Lexeme) (a : A) → G u a → Spells G (f a) a)
    → (u : List Lexeme) (list : List A) → listed F G u list → Spells (listed F G) (listed_spelled f list) list
listed_again {A = A} F G f begins each u list (v, w, first, parts, h, (x, y, rest, further, more, (nothing, is))) =
    subst (λ l. Spells (listed F G) (listed_spelled f l) l) (sym is)
    (spells_both (begins v first h) (spells_made (λ l. first ∷ l) (many_again (both (one (sign (codes ","))) (λ _. G)) (next_spelled f) (comma_again G f each) rest x more)))

pub perhaps_again : {A : Type 0} (F G : Grammar Lexeme A) (f : A → List Spelling) → ((u : List Lexeme) (a : A) → F u a → Spells F (f a) a) → ((u : List Lexeme) (a : A) → G u a → Spells G (f a) a)
    → (u : List Lexeme) (list : List A) → perhaps_listed F G u list → Spells (perhaps_listed F G) (listed_spelled f list) list
perhaps_again F G f begins each u list (inl h) = spells_left (listed_again F G f begins each u list h)
perhaps_again F G f begins each u list (inr (nothing, is)) = subst (λ l. Spells (perhaps_listed F G) (listed_spelled f l) l) (sym is) (spells_right (spells_done []))

pub name_again : (u : List Lexeme) (n : List ℕ) → one name u n → Spells (one name) (name_spelled n) n
name_again u n (t, is, picks) =
    let (both_hold, same) = when_picks (λ (t : Lexeme). is_text_kind t.kind && is_name (unquoted t.piece)) (λ t. unquoted t.piece) t n picks in
    let (_, named) = and_is (is_text_kind t.kind) (is_name (unquoted t.piece)) both_hold in
    spells_one (picks_name n (ap is_name (sym same) ∙ named))
