-- The readers of statements are exact.
use Rattle.std.proofs.Common.{◌≡◌, ℕ, List, [], ◌∷◌, ◌++◌, Some, None, true, false, ◌&&◌, if◌then◌else◌, codes, refl, sym, ◌∙◌, ap, inl, inr, append-nil, append_assoc}
use Rattle.std.specs.Str.{str_eq_ignore_ascii_case}
use Rattle.cube_lex.specs.Lexeme.{Lexeme}
use Rattle.cube_lex.specs.Positions.{position_of}
use Rattle.grammar.specs.Grammar.{Grammar, one, both, done, either}
use Rattle.grammar.specs.Tokens.{sign, word, is_sign, is_word, is_word_kind, capitals}
use Rattle.grammar.proofs.Exact.{Exact, Always, Not, exact_gives, exact_then, exact_made}
use Rattle.grammar.proofs.Begins.{Begins, begins_both, has_token, has_token_either, starts_text, made_is, exact_option, exact_before_next}
use Rattle.grammar.proofs.Tokens.{sign_of, when_picks, and_is, exact_sign, exact_word, word_begins, sign_no_word}
use Rattle.expression_grammar.specs.declared.sort.Sort.TheVariants as sorts
use Rattle.expression_grammar.proofs.Languages.{goes_on}
use Rattle.expression_grammar.proofs.ExpressionExact.{sign_goes_on, expression_has_token}
use Rattle.rule_tree.specs.Counting.{count, counting}
use Rattle.rule_tree.specs.Formula.{rules_language}
use Rattle.rule_tree.specs.RuleText.{ended, part, leaf_first, cons_first, body, statement}
use Rattle.rule_reader.specs.Readers.TextReading.{starts_part, choose_part, read_ended, read_part, read_behind_leaf, read_leaf_first, read_behind_cons, read_cons_first, read_both, read_body, read_statement}
use Rattle.rule_tree.specs.declared.rule.BodyText.{BodyText}
use Rattle.rule_tree.specs.declared.rule.BodyText.TheVariants as bodies
use Rattle.rule_tree.specs.declared.tree.Tree.{Tree}
use Rattle.rule_tree.specs.declared.tree.Tree.TheVariants as trees
use Rattle.rule_reader.proofs.FormulaExact.{rules_are_language, formula_exact}
use Rattle.rule_reader.proofs.AreaExact.{area_exact, area_begins}
use Rattle.rule_reader.proofs.WordFirst.{ended_no_part, formula_of_word}
use Rattle.expression_grammar.proofs.LookaheadExact.{no_pair, exact_choose_pair}

pub semicolon : Begins (one (sign (codes ";"))) (goes_on rules_language) false
semicolon = sign_goes_on rules_language (codes ";")

ended_exact : Exact counting ended ended read_ended Always
unfolding read_ended
ended_exact = exact_before_next formula_exact (λ tree. exact_then (exact_sign count (codes ";")) (λ _. exact_gives counting tree)) (λ tree. begins_both semicolon)

part_exact : (mark : List ℕ) → Exact counting (part mark) (part mark) (read_part mark) Always
unfolding read_part
part_exact mark = exact_then (exact_word count mark) (λ _. exact_then (exact_sign count (codes ":")) (λ _. ended_exact))

leaf_first_exact : Exact counting leaf_first leaf_first read_leaf_first (Not (is_word (codes "C")))
unfolding read_leaf_first read_behind_leaf
leaf_first_exact = exact_then (part_exact (codes "N")) (λ leaf. exact_option (is_word (codes "C")) (bodies.Leaf leaf) (begins_both (begins_both (word_begins (codes "C") (codes "C")))) (exact_made (λ cons. bodies.LeafCons leaf cons) (part_exact (codes "C"))))

cons_first_exact : Exact counting cons_first cons_first read_cons_first (Not (is_word (codes "N")))
unfolding read_cons_first read_behind_cons
cons_first_exact = exact_then (part_exact (codes "C")) (λ cons. exact_option (is_word (codes "N")) (bodies.Cons cons) (begins_both (begins_both (word_begins (codes "N") (codes "N")))) (exact_made (λ leaf. bodies.ConsLeaf cons leaf) (part_exact (codes "N"))))

-- what may follow the first part
abbrev pub behind_leaf : Tree → Grammar Lexeme BodyText
behind_leaf leaf = either (both (part (codes "C")) (λ cons. done (bodies.LeafCons leaf cons))) (done (bodies.Leaf leaf))

abbrev pub behind_cons : Tree → Grammar Lexeme BodyText
behind_cons cons = either (both (part (codes "N")) (λ leaf. done (bodies.ConsLeaf cons leaf))) (done (bodies.Cons cons))

-- one formula for all cells
abbrev pub plain : Grammar Lexeme BodyText
plain = both ended (λ tree. done (bodies.Both tree))

plain_exact : Exact counting plain plain read_both Always
unfolding read_both
plain_exact = exact_made (λ tree. bodies.Both tree) ended_exact

-- What a part begins with.

part_starts : (mark : List ℕ) (u : List Lexeme) (tree : Tree) (rest : List Lexeme) → part mark u tree → starts_part mark (u ++ rest) ≡ true
part_starts mark u tree rest (a, b, line, parts, (t, is, picks), (c, d, x, more, (s, single, colon), h)) =
    let (marked, _) = when_picks (is_word mark) position_of t line picks in
    let (follows, _) = when_picks (is_sign (codes ":")) (λ _. tt) s x colon in
    ap (λ l. starts_part mark (l ++ rest)) (parts ∙ ap (λ l. l ++ b) is ∙ ap (λ l. t ∷ l) (more ∙ ap (λ l. l ++ d) single))
    ∙ ap (λ m. m && is_sign (codes ":") s) marked ∙ follows

pub part_first : {A : Type 0} (mark : List ℕ) (K : Tree → Grammar Lexeme A) (u : List Lexeme) (a : A) (rest : List Lexeme) → both (part mark) K u a → starts_part mark (u ++ rest) ≡ true
part_first mark K u a rest (v, w, tree, parts, h, k) = ap (λ l. starts_part mark (l ++ rest)) parts ∙ ap (starts_part mark) (append_assoc v w rest) ∙ part_starts mark v tree (w ++ rest) h

pub plain_no_part : (mark : List ℕ) (u : List Lexeme) (a : BodyText) (rest : List Lexeme) → plain u a → starts_part mark (u ++ rest) ≡ false
plain_no_part mark u a rest h = let (tree, k) = made_is ended (λ tree. bodies.Both tree) u a h in ended_no_part mark u tree rest k

cons_first_tells : (b : List ℕ) → Begins cons_first (is_word b) (str_eq_ignore_ascii_case (codes "C") b)
cons_first_tells b = begins_both (begins_both (word_begins (codes "C") b))

leaf_first_tells : (b : List ℕ) → Begins leaf_first (is_word b) (str_eq_ignore_ascii_case (codes "N") b)
leaf_first_tells b = begins_both (begins_both (word_begins (codes "N") b))

plain_begins : Begins plain (λ _. true) true
plain_begins = begins_both (begins_both (expression_has_token rules_are_language sorts.Value))

-- Texts that begin with a word.

part_of_word : (mark : List ℕ) (t : Lexeme) → is_word mark t ≡ true → (v : List Lexeme) × (tree : Tree) × part mark (t ∷ v) tree
part_of_word mark t comes =
    let (w, tree, h) = ended_exact.word in
    let picks : word mark t ≡ Some (position_of t) = ap (λ b. if b then Some (position_of t) else None) comes in
    let colon : Lexeme = sign_of (codes ":") in
    (colon ∷ w, tree, (t ∷ [], colon ∷ w, (position_of t), refl, (t, refl, picks), (colon ∷ [], w, tt, refl, (colon, refl, refl), h)))

leaf_of_word : (t : Lexeme) → is_word (codes "N") t ≡ true → (v : List Lexeme) × (a : BodyText) × leaf_first (t ∷ v) a
leaf_of_word t comes = let (v, tree, h) = part_of_word (codes "N") t comes in (v, bodies.Leaf tree, (t ∷ v, [], tree, sym (append-nil (t ∷ v)), h, inr (refl, refl)))

cons_of_word : (t : Lexeme) → is_word (codes "C") t ≡ true → (v : List Lexeme) × (a : BodyText) × cons_first (t ∷ v) a
cons_of_word t comes = let (v, tree, h) = part_of_word (codes "C") t comes in (v, bodies.Cons tree, (t ∷ v, [], tree, sym (append-nil (t ∷ v)), h, inr (refl, refl)))

plain_of_word : (mark : List ℕ) (t : Lexeme) → is_word mark t ≡ true → (v : List Lexeme) × (a : BodyText) × plain (t ∷ v) a
plain_of_word mark t comes =
    let (kind, _) = and_is (is_word_kind t.kind) (str_eq_ignore_ascii_case t.piece mark) comes in
    let tree : Tree = trees.Call (capitals t.piece) [] in
    let f : List Lexeme = t ∷ sign_of (codes "(") ∷ sign_of (codes ")") ∷ [] in
    let last : List Lexeme = sign_of (codes ";") ∷ [] in
    (sign_of (codes "(") ∷ sign_of (codes ")") ∷ last, bodies.Both tree, (f ++ last, [], tree, refl, (f, last, tree, refl, formula_of_word t kind, (last, [], tt, refl, (sign_of (codes ";"), refl, refl), (refl, refl))), (refl, refl)))

-- Which of the bodies it is.

cons_or_plain : Exact counting (either cons_first plain) (either cons_first plain) (choose_part (codes "C") read_cons_first read_both) (Not (is_word (codes "N")))
cons_or_plain = exact_choose_pair count (is_word (codes "C")) (is_sign (codes ":"))
    (record { exact = cons_first_exact; ends = refl; has = has_token (cons_first_tells (codes "C")); begun = cons_of_word })
    (record { exact = plain_exact; ends = tt; has = has_token plain_begins; begun = plain_of_word (codes "C") })
    (λ u a rest h stops. (part_first (codes "C") behind_cons u a rest h, stops))
    (λ u a rest h stops. (plain_no_part (codes "C") u a rest h, tt))

-- what may stand behind a body
pub record BehindBody (rest : List Lexeme) : Type 0 where
  pub leaf : Not (is_word (codes "N")) rest
  pub cons : Not (is_word (codes "C")) rest

pub no_leaf : (u : List Lexeme) (a : BodyText) (rest : List Lexeme) → either cons_first plain u a → starts_part (codes "N") (u ++ rest) ≡ false
no_leaf u a rest (inl h) = no_pair (is_word (codes "N")) (is_sign (codes ":")) (u ++ rest) (starts_text (cons_first_tells (codes "N")) u a rest h)
no_leaf u a rest (inr h) = plain_no_part (codes "N") u a rest h

plain_of_leaf : (t : Lexeme) → is_word (codes "N") t ≡ true → (v : List Lexeme) × (a : BodyText) × either cons_first plain (t ∷ v) a
plain_of_leaf t comes = let (v, a, h) = plain_of_word (codes "N") t comes in (v, a, inr h)

body_exact : Exact counting body body read_body BehindBody
unfolding read_body
body_exact = exact_choose_pair count (is_word (codes "N")) (is_sign (codes ":"))
    (record { exact = leaf_first_exact; ends = refl; has = has_token (leaf_first_tells (codes "N")); begun = leaf_of_word })
    (record { exact = cons_or_plain; ends = refl; has = has_token_either (has_token (cons_first_tells (codes "C"))) (has_token plain_begins); begun = plain_of_leaf })
    (λ u a rest h stops. (part_first (codes "N") behind_leaf u a rest h, stops.cons))
    (λ u a rest h stops. (no_leaf u a rest h, stops.leaf))

pub statement_exact : Exact counting statement statement read_statement BehindBody
unfolding read_statement
statement_exact = exact_then area_exact (λ cells. exact_then (exact_sign count (codes "=")) (λ _. exact_made (λ given. record { area = cells; body = given }) body_exact))

pub statement_begins : Begins statement (is_sign (codes "[")) true
statement_begins = begins_both area_begins

pub statement_no_word : (b : List ℕ) → Begins statement (is_word b) false
statement_no_word b = begins_both (begins_both (sign_no_word (codes "[") b))
