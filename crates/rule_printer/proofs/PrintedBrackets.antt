-- Brackets and areas, written again, and what their texts have in common.
use Rattle.std.proofs.Common.{◌≡◌, ℕ, List, [], ◌∷◌, ◌++◌, Bool, true, false, Option, Some, None, ◌&&◌, refl, sym, ap, ◌∙◌, subst, inl, inr, codes, append-nil}
use Rattle.std.specs.Str.{bytes_eq}
use Rattle.cube_lex.specs.Lexeme.{Lexeme}
use Rattle.cube_lex.specs.Quoted.{unquoted}
use Rattle.cube_lex.specs.declared.token.Kind.{Kind}
use Rattle.cube_lex.specs.declared.token.Kind.TheVariants as kinds
use Rattle.dim_name.specs.Name.{is_name}
use Rattle.grammar.specs.Grammar.{Grammar, done, one, both, either, many}
use Rattle.grammar.specs.Tokens.{is_sign_kind, is_text_kind, is_sign, sign, name}
use Rattle.grammar.proofs.Tokens.{when_picks, and_is, sign_tells}
use Rattle.expression_grammar.proofs.PrintedTokens.{Spells, spells_done, spells_one, spells_both, spells_next, spells_made, spells_left, spells_right, picks_sign}
use Rattle.grammar.specs.Lists.{listed, perhaps_listed}
use Rattle.rule_tree.specs.Formula.{dimension, simple, bracket}
use Rattle.rule_tree.specs.RuleText.{elements, entry, area}
use Rattle.rule_printer.specs.Spelled.{name_spelled, dimension_spelled, simple_spelled, bracket_spelled, elements_spelled, entry_spelled, area_spelled}
use Rattle.rule_tree.specs.declared.rule.EntryText.{EntryText}
use Rattle.rule_tree.specs.declared.tree.SimpleText.{SimpleText}
use Rattle.rule_printer.proofs.PrintedWords.{picks_name, listed_again, perhaps_again, name_again}

-- Written again.

name_named : (u : List Lexeme) (n : List ℕ) → one name u n → is_name n ≡ true
name_named u n (t, is, picks) =
    let (both_hold, same) = when_picks (λ (t : Lexeme). is_text_kind t.kind && is_name (unquoted t.piece)) (λ t. unquoted t.piece) t n picks in
    let (_, named) = and_is (is_text_kind t.kind) (is_name (unquoted t.piece)) both_hold in
    ap is_name (sym same) ∙ named

pub dimension_again : (u : List Lexeme) (o : Option (List ℕ)) → dimension u o → Spells dimension (dimension_spelled o) o
dimension_again u o (inl (v, w, dim, parts, h, (x, y, _, further, colon, (nothing, is)))) =
    subst (λ o. Spells dimension (dimension_spelled o) o) (sym is) (spells_left (spells_next (picks_name dim (name_named v dim h)) (spells_next (picks_sign (codes ":")) (spells_done (Some dim)))))
dimension_again u o (inr (nothing, is)) = subst (λ o. Spells dimension (dimension_spelled o) o) (sym is) (spells_right (spells_done None))

pub simple_again : (u : List Lexeme) (s : SimpleText) → simple u s → Spells simple (simple_spelled s) s
simple_again u s (v, w, dim, parts, h, (x, y, element, further, g, (nothing, is))) =
    subst (λ s. Spells simple (simple_spelled s) s) (sym is) (spells_both (dimension_again v dim h) (spells_made (λ element. record { dim = dim; element = element }) (name_again x element g)))

pub bracket_again : (u : List Lexeme) (simples : List SimpleText) → bracket u simples → Spells bracket (bracket_spelled simples) simples
bracket_again u simples (v, w, _, parts, opening, (x, y, list, further, h, (a, b, _, ends, closing, (nothing, is)))) =
    subst (λ l. Spells bracket (bracket_spelled l) l) (sym is)
    (spells_next (picks_sign (codes "[")) (spells_both (perhaps_again simple simple simple_spelled simple_again simple_again x list h) (spells_next (picks_sign (codes "]")) (spells_done list))))

braces_again : (list : List (List ℕ)) (u : List Lexeme) → listed (one name) (one name) u list → Spells elements (elements_spelled list) list
braces_again [] u (v, w, first, parts, h, (x, y, rest, further, more, (nothing, is))) = cc
braces_again (element ∷ []) u (v, w, first, parts, h, (x, y, rest, further, more, (nothing, is))) =
    let same : element ≡ first = cc in
    spells_left (spells_made (λ e. e ∷ []) (spells_one (picks_name element (ap is_name same ∙ name_named v first h))))
braces_again (first ∷ second ∷ rest) u h =
    spells_right (spells_next (picks_sign (codes "{")) (spells_both (listed_again (one name) (one name) name_spelled name_again name_again u (first ∷ second ∷ rest) h) (spells_next (picks_sign (codes "}")) (spells_done (first ∷ second ∷ rest)))))

pub elements_again : (u : List Lexeme) (list : List (List ℕ)) → elements u list → Spells elements (elements_spelled list) list
elements_again u list (inl (v, w, element, parts, h, (nothing, is))) =
    subst (λ l. Spells elements (elements_spelled l) l) (sym is) (spells_left (spells_made (λ e. e ∷ []) (spells_one (picks_name element (name_named v element h)))))
elements_again u list (inr (v, w, _, parts, opening, (x, y, all, further, h, (a, b, _, ends, closing, (nothing, is))))) =
    subst (λ l. Spells elements (elements_spelled l) l) (sym is) (braces_again all x h)

pub entry_again : (u : List Lexeme) (e : EntryText) → entry u e → Spells entry (entry_spelled e) e
entry_again u e (v, w, dim, parts, h, (x, y, all, further, g, (nothing, is))) =
    subst (λ e. Spells entry (entry_spelled e) e) (sym is) (spells_both (dimension_again v dim h) (spells_made (λ all. record { dim = dim; elements = all }) (elements_again x all g)))

pub area_again : (u : List Lexeme) (entries : List EntryText) → area u entries → Spells area (area_spelled entries) entries
area_again u entries (v, w, _, parts, opening, (x, y, list, further, h, (a, b, _, ends, closing, (nothing, is)))) =
    subst (λ l. Spells area (area_spelled l) l) (sym is)
    (spells_next (picks_sign (codes "[")) (spells_both (perhaps_again entry entry entry_spelled entry_again entry_again x list h) (spells_next (picks_sign (codes "]")) (spells_done list))))

-- Between the brackets.

-- a token that ends neither a bracket nor an area nor what they stand in
pub record IsContent (t : Lexeme) : Type 0 where
  pub semicolon : is_sign (codes ";") t ≡ false
  pub closing : is_sign (codes "]") t ≡ false
  pub equal : is_sign (codes "=") t ≡ false
  pub arrow : is_sign (codes "=>") t ≡ false
  pub opening : is_sign (codes "(") t ≡ false

abbrev pub AreContent : List Lexeme → Type 0
AreContent [] = Unit {0}
AreContent (t ∷ ts) = IsContent t × AreContent ts

content_append : (u v : List Lexeme) → AreContent u → AreContent v → AreContent (u ++ v)
content_append [] v a b = b
content_append (t ∷ u) v a b = (a.0, content_append u v a.1 b)

pub record Content {A : Type 0} (G : Grammar Lexeme A) : Type 0 where
  pub at : (u : List Lexeme) (a : A) → G u a → AreContent u

content_done : {A : Type 0} {a : A} → Content (done a)
content_done = record { at = λ u b h. subst AreContent (sym h.0) tt }

content_both : {A B : Type 0} {G : Grammar Lexeme A} {K : A → Grammar Lexeme B} → Content G → ((a : A) → Content (K a)) → Content (both G K)
content_both g k = record { at = λ u b (v, w, a, parts, h, l). subst AreContent (sym parts) (content_append v w (g.at v a h) ((k a).at w b l)) }

content_either_at : {A : Type 0} {G H : Grammar Lexeme A} → Content G → Content H → (u : List Lexeme) (a : A) → either G H u a → AreContent u
content_either_at g h u a (inl x) = g.at u a x
content_either_at g h u a (inr x) = h.at u a x

content_either : {A : Type 0} {G H : Grammar Lexeme A} → Content G → Content H → Content (either G H)
content_either g h = record { at = content_either_at g h }

content_many_at : {A : Type 0} {G : Grammar Lexeme A} → Content G → (list : List A) (u : List Lexeme) → many G u list → AreContent u
content_many_at g [] u h = subst AreContent (sym h) tt
content_many_at g (a ∷ list) u (v, w, parts, h, more) = subst AreContent (sym parts) (content_append v w (g.at v a h) (content_many_at g list w more))

content_many : {A : Type 0} {G : Grammar Lexeme A} → Content G → Content (many G)
content_many g = record { at = λ u list. content_many_at g list u }

content_sign : (s : List ℕ) → bytes_eq s (codes ";") ≡ false → bytes_eq s (codes "]") ≡ false → bytes_eq s (codes "=") ≡ false → bytes_eq s (codes "=>") ≡ false → bytes_eq s (codes "(") ≡ false → Content (one (sign s))
content_sign s semicolon closing equal arrow opening = record {
  at = λ u a (t, is, takes). subst AreContent (sym is) (
    record {
      semicolon = sign_tells s (codes ";") t a takes ∙ semicolon;
      closing = sign_tells s (codes "]") t a takes ∙ closing;
      equal = sign_tells s (codes "=") t a takes ∙ equal;
      arrow = sign_tells s (codes "=>") t a takes ∙ arrow;
      opening = sign_tells s (codes "(") t a takes ∙ opening;
    },
    tt,
  );
}

text_no_sign : (k : Kind) (b : Bool) → is_text_kind k ≡ true → (is_sign_kind k && b) ≡ false
text_no_sign kinds.Word b e = refl
text_no_sign kinds.Number b e = refl
text_no_sign kinds.Text b e = refl
text_no_sign kinds.Sign b e = cc

content_name : Content (one name)
content_name = record {
  at = λ u a (t, is, picks). (
      let (both_hold, same) = when_picks (λ (t : Lexeme). is_text_kind t.kind && is_name (unquoted t.piece)) (λ t. unquoted t.piece) t a picks in
      let (kind, _) = and_is (is_text_kind t.kind) (is_name (unquoted t.piece)) both_hold in
      subst AreContent (sym is) (
        record {
          semicolon = text_no_sign t.kind _ kind;
          closing = text_no_sign t.kind _ kind;
          equal = text_no_sign t.kind _ kind;
          arrow = text_no_sign t.kind _ kind;
          opening = text_no_sign t.kind _ kind;
        },
        tt,
      ));
}

content_listed : {A : Type 0} {F G : Grammar Lexeme A} → Content F → Content G → Content (listed F G)
content_listed f g = content_both f (λ first. content_both (content_many (content_both (content_sign (codes ",") refl refl refl refl refl) (λ _. g))) (λ rest. content_done))

content_perhaps : {A : Type 0} {F G : Grammar Lexeme A} → Content F → Content G → Content (perhaps_listed F G)
content_perhaps f g = content_either (content_listed f g) content_done

content_dimension : Content dimension
content_dimension = content_either (content_both content_name (λ dim. content_both (content_sign (codes ":") refl refl refl refl refl) (λ _. content_done))) content_done

content_simple : Content simple
content_simple = content_both content_dimension (λ dim. content_both content_name (λ element. content_done))

content_elements : Content elements
content_elements = content_either (content_both content_name (λ element. content_done))
    (content_both (content_sign (codes "{") refl refl refl refl refl) (λ _. content_both (content_listed content_name content_name) (λ all. content_both (content_sign (codes "}") refl refl refl refl refl) (λ _. content_done))))

content_entry : Content entry
content_entry = content_both content_dimension (λ dim. content_both content_elements (λ all. content_done))

-- What stands in brackets is content.

pub record IsBracketed (u : List Lexeme) : Type 0 where
  pub first : Lexeme
  pub inner : List Lexeme
  pub last : Lexeme
  pub parts : u ≡ first ∷ (inner ++ last ∷ [])
  pub opens : is_sign (codes "[") first ≡ true
  pub content : AreContent inner
  pub closes : is_sign (codes "]") last ≡ true

between : {A : Type 0} (G : Grammar Lexeme A) → Content G → (u : List Lexeme) (a : A) → both (one (sign (codes "["))) (λ _. both G (λ a. both (one (sign (codes "]"))) (λ _. done a))) u a → IsBracketed u
between G content u a (v, w, _, parts, (s, is-s, takes-s), (x, y, b, further, h, (f, g, _, ends, (t, is-t, takes-t), (nothing, is)))) =
    let (opens, _) = when_picks (is_sign (codes "[")) (λ _. tt) s _ takes-s in
    let (closes, _) = when_picks (is_sign (codes "]")) (λ _. tt) t _ takes-t in
    let last : y ≡ t ∷ [] = ends ∙ ap (λ l. f ++ l) nothing ∙ append-nil f ∙ is-t in
    record { first = s; inner = x; last = t; parts = parts ∙ ap (λ l. l ++ w) is-s ∙ ap (λ l. s ∷ l) (further ∙ ap (λ l. x ++ l) last); opens = opens; content = content.at x b h; closes = closes }

pub bracket_is : (u : List Lexeme) (simples : List SimpleText) → bracket u simples → IsBracketed u
bracket_is = between (perhaps_listed simple simple) (content_perhaps content_simple content_simple)

pub area_is : (u : List Lexeme) (entries : List EntryText) → area u entries → IsBracketed u
area_is = between (perhaps_listed entry entry) (content_perhaps content_entry content_entry)
