-- Where a formula begins with a word, no `:` stands behind it.
use Rattle.std.proofs.Common.{◌≡◌, ℕ, zero, suc, List, [], ◌∷◌, ◌++◌, Option, Some, None, Bool, true, false, ◌&&◌, if◌then◌else◌, codes, refl, ◌∙◌, ap, inl, inr, append_assoc}
use Rattle.std.specs.Str.{bytes_eq, str_eq_ignore_ascii_case}
use Rattle.cube_lex.specs.Lexeme.{Lexeme}
use Rattle.cube_lex.specs.declared.token.Kind.TheVariants as kinds
use Rattle.grammar.specs.Grammar.{Grammar, one, both, done, either, many}
use Rattle.grammar.specs.Reading.{starts}
use Rattle.grammar.specs.Tokens.{sign, word, capital_word, is_sign, is_word, is_word_kind, capitals}
use Rattle.grammar.proofs.Exact.{Not}
use Rattle.grammar.proofs.Begins.{Begins, begins_both, starts_text, starts_many}
use Rattle.grammar.proofs.Tokens.{sign_of, and_is, sign_begins}
use Rattle.expression_grammar.specs.Language.{Table}
use Rattle.expression_grammar.specs.Expression.{chain, prefixed, value_of, within, nothing}
use Rattle.expression_grammar.specs.declared.sort.Sort.TheVariants as sorts
use Rattle.expression_grammar.proofs.Languages.{is_apart}
use Rattle.expression_grammar.proofs.Operators.{operation_apart}
use Rattle.expression_grammar.proofs.ExpressionExact.{no_operations}
use Rattle.rule_tree.specs.Formula.{rules_language, primary, formula}
use Rattle.rule_tree.specs.RuleText.{ended}
use Rattle.rule_reader.specs.Readers.TextReading.{starts_part}
use Rattle.rule_tree.specs.declared.tree.Tree.{Tree}
use Rattle.rule_tree.specs.declared.tree.Tree.TheVariants as trees
use Rattle.expression_grammar.proofs.TokenKinds.{kind_begins, sign_kind, text_kind, money_kind}

abbrev is_colon : Lexeme → Bool
is_colon = is_sign (codes ":")

-- a text and what follows it don't begin with `:`, if what follows doesn't
record Avoids {A : Type 0} (G : Grammar Lexeme A) : Type 0 where
  at : (u : List Lexeme) (a : A) (rest : List Lexeme) → G u a → Not is_colon rest → Not is_colon (u ++ rest)

-- a text's first token is no word, or what stands behind it doesn't begin with `:`, if what follows the text doesn't
record Leads {A : Type 0} (G : Grammar Lexeme A) : Type 0 where
  at : (u : List Lexeme) (a : A) → G u a → (t : Lexeme) × (v : List Lexeme) × (u ≡ t ∷ v) × (is_word_kind t.kind ≡ true → (rest : List Lexeme) → Not is_colon rest → Not is_colon (v ++ rest))

avoids_done : {A : Type 0} (x : A) → Avoids (done x)
avoids_done x = record { at = λ u a rest h stops. ap (λ l. starts is_colon (l ++ rest)) h.0 ∙ stops }

avoids_begins : {A : Type 0} {G : Grammar Lexeme A} → Begins G is_colon false → Avoids G
avoids_begins e = record { at = λ u a rest h stops. starts_text e u a rest h }

avoids_many : {A : Type 0} {G : Grammar Lexeme A} → Begins G is_colon false → Avoids (many G)
avoids_many e = record { at = λ u list rest h stops. starts_many e list u rest h stops }

avoids_both : {A B : Type 0} {G : Grammar Lexeme A} {K : A → Grammar Lexeme B} → Avoids G → ((a : A) → Avoids (K a)) → Avoids (both G K)
avoids_both e k = record { at = λ u b rest (g, w, a, parts, h, l) stops. ap (λ x. starts is_colon (x ++ rest)) parts ∙ ap (starts is_colon) (append_assoc g w rest) ∙ e.at g a (w ++ rest) h ((k a).at w b rest l stops) }

contrary : {A : Type 0} (b : Bool) → b ≡ false → b ≡ true → A
contrary b e f = cc

leads_no_word : {A : Type 0} {G : Grammar Lexeme A} → Begins G (λ t. is_word_kind t.kind) false → Leads G
leads_no_word e = record { at = λ u a h. (let (t, v, is, none) = e.at u a h in (t, v, is, λ comes rest stops. contrary (is_word_kind t.kind) none comes)) }

leads_one : {A : Type 0} (pick : Lexeme → Option A) → Leads (one pick)
leads_one pick = record { at = λ u a (t, is, picks). (t, [], is, λ _ rest stops. stops) }

leads_both : {A B : Type 0} {G : Grammar Lexeme A} {K : A → Grammar Lexeme B} → Leads G → ((a : A) → Avoids (K a)) → Leads (both G K)
leads_both e k = record { at = λ u b (g, w, a, parts, h, l). (let (t, v, is, tells) = e.at g a h in (t, v ++ w, parts ∙ ap (λ x. x ++ w) is, λ comes rest stops. ap (starts is_colon) (append_assoc v w rest) ∙ tells comes (w ++ rest) ((k a).at w b rest l stops))) }

leads_either_at : {A : Type 0} {G H : Grammar Lexeme A} → Leads G → Leads H → (u : List Lexeme) (a : A) → either G H u a → (t : Lexeme) × (v : List Lexeme) × (u ≡ t ∷ v) × (is_word_kind t.kind ≡ true → (rest : List Lexeme) → Not is_colon rest → Not is_colon (v ++ rest))
leads_either_at e f u a (inl h) = e.at u a h
leads_either_at e f u a (inr h) = f.at u a h

leads_either : {A : Type 0} {G H : Grammar Lexeme A} → Leads G → Leads H → Leads (either G H)
leads_either e f = record { at = leads_either_at e f }

-- The levels of formulas.

no_word : (b : List ℕ) → Begins (one (sign b)) (λ t. is_word_kind t.kind) false
no_word b = kind_begins is_word_kind (sign_kind b)

leads_chain : {A O : Type 0} (joined : O → A → A → A) (table : Table O) (G : Grammar Lexeme A) → is_apart (λ s. bytes_eq s (codes ":")) table ≡ true → Leads G → Leads (chain joined table G)
leads_chain joined table G apart e = leads_both e (λ head. avoids_both (avoids_many (operation_apart (λ s. bytes_eq s (codes ":")) table G apart)) (λ rest. avoids_done _))

leads_prefixed : {A : Type 0} (before : List ℕ) (make : A → A) (G : Grammar Lexeme A) → Leads G → Leads (prefixed before make G)
leads_prefixed before make G e = leads_either (leads_no_word (begins_both (no_word before))) e

primary_leads : (V T : Grammar Lexeme Tree) → Leads (primary V T)
primary_leads V T = leads_either (leads_no_word (begins_both (kind_begins is_word_kind money_kind))) (leads_either (leads_no_word (begins_both (kind_begins is_word_kind text_kind)))
    (leads_either (leads_no_word (begins_both (no_word (codes "!")))) (leads_either (leads_no_word (begins_both (begins_both (no_word (codes "[")))))
    (leads_either (leads_both (leads_one (word (codes "STET"))) (λ _. avoids_done trees.Stet)) (leads_either (leads_both (leads_one (word (codes "CONTINUE"))) (λ _. avoids_done trees.Continue))
    (leads_both (leads_one capital_word) (λ function. avoids_begins (begins_both (sign_begins (codes "(") (codes ":"))))))))))

value_leads : (V T : Grammar Lexeme Tree) → Leads (value_of rules_language primary V T)
value_leads V T = leads_chain rules_language.joined rules_language.sum _ refl (leads_chain rules_language.joined rules_language.product _ refl (leads_prefixed (codes "-") rules_language.negated _
    (leads_either (leads_no_word (begins_both (no_word (codes "(")))) (primary_leads V T))))

within_leads : (h : ℕ) (u : List Lexeme) (a : Tree) → within rules_language primary h sorts.Value u a → (t : Lexeme) × (v : List Lexeme) × (u ≡ t ∷ v) × (is_word_kind t.kind ≡ true → (rest : List Lexeme) → Not is_colon rest → Not is_colon (v ++ rest))
within_leads zero u a h = absurd h
within_leads (suc k) u a h = (value_leads (within rules_language primary k sorts.Value) (within rules_language primary k sorts.Truth)).at u a h

formula_leads : Leads formula
formula_leads = record { at = λ u a (h, g). within_leads h u a g }

and_none : (a b : Bool) → (a ≡ true → b ≡ false) → (a && b) ≡ false
and_none true b h = h refl
and_none false b h = refl

-- what ends a formula
semicolon : (tree : Tree) → Begins (both (one (sign (codes ";"))) (λ _. done tree)) is_colon false
semicolon tree = begins_both (sign_begins (codes ";") (codes ":"))

-- a formula and its `;` are no part
pub ended_no_part : (mark : List ℕ) (u : List Lexeme) (a : Tree) (rest : List Lexeme) → ended u a → starts_part mark (u ++ rest) ≡ false
ended_no_part mark u a rest (f, w, tree, parts, h, l) =
    let (t, v, is, tells) = formula_leads.at f tree h in
    ap (λ x. starts_part mark (x ++ rest)) (parts ∙ ap (λ x. x ++ w) is)
    ∙ and_none (is_word mark t) (starts is_colon ((v ++ w) ++ rest)) (λ comes.
    let (kind, _) = and_is (is_word_kind t.kind) (str_eq_ignore_ascii_case t.piece mark) comes in
    ap (starts is_colon) (append_assoc v w rest) ∙ tells kind (w ++ rest) (starts_text (semicolon tree) w a rest l))

-- A formula that begins with this word: a call with no arguments.

pub formula_of_word : (t : Lexeme) → is_word_kind t.kind ≡ true → formula (t ∷ sign_of (codes "(") ∷ sign_of (codes ")") ∷ []) (trees.Call (capitals t.piece) [])
formula_of_word t kind =
    let open_sign : Lexeme = sign_of (codes "(") in
    let close_sign : Lexeme = sign_of (codes ")") in
    let u : List Lexeme = t ∷ open_sign ∷ close_sign ∷ [] in
    let e : Tree = trees.Call (capitals t.piece) [] in
    let picks : capital_word t ≡ Some (capitals t.piece) = ap (λ b. if b then Some (capitals t.piece) else None) kind in
    let called : primary nothing nothing u e = inr (inr (inr (inr (inr (inr (t ∷ [], open_sign ∷ close_sign ∷ [], capitals t.piece, refl, (t, refl, picks), (open_sign ∷ [], close_sign ∷ [], tt, refl, (open_sign, refl, refl), ([], close_sign ∷ [], [], refl, inr (refl, refl), (close_sign ∷ [], [], tt, refl, (close_sign, refl, refl), (refl, refl)))))))))) in
    (1, no_operations rules_language.joined rules_language.sum _ u e (no_operations rules_language.joined rules_language.product _ u e (inr (inr called))))
