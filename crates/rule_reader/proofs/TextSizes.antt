-- A rule text has a token for each node of its formulas and for each target of its feeders; and no `;` stands in a formula.
use Rattle.std.proofs.Common.{◌≡◌, ◌≤◌, ◌+◌, ℕ, zero, suc, List, [], ◌∷◌, length, Option, Bool, true, false, ◌&&◌, ◌||◌, refl, ap, subst, ◌∙◌, codes, arith}
use Rattle.std.specs.List.{sum_by}
use Rattle.std.specs.Str.{bytes_eq, str_eq_ignore_ascii_case}
use Rattle.std.proofs.lemmas.List.Sums.{sum_by-cons, sum-map}
use Rattle.cube_lex.specs.Lexeme.{Lexeme}
use Rattle.cube_lex.specs.Positions.{position_of}
use Rattle.cube_lex.specs.declared.token.Kind.{Kind}
use Rattle.cube_lex.specs.declared.token.Kind.TheVariants as kinds
use Rattle.grammar.specs.Grammar.{Grammar, one, either}
use Rattle.grammar.specs.Lists.{listed, perhaps_listed}
use Rattle.grammar.specs.Tokens.{sign, word, name, is_sign, is_word, is_sign_kind, is_word_kind}
use Rattle.grammar.proofs.Begins.{Begins, begins_one}
use Rattle.grammar.proofs.Tokens.{when_picks, and_is}
use Rattle.expression_grammar.specs.Expression.{from_left, operation, chain, prefixed, enclosed, value_of, comparison, truth_of, within}
use Rattle.expression_grammar.specs.Language.{Table}
use Rattle.expression_grammar.specs.declared.sort.Sort.{Sort}
use Rattle.expression_grammar.specs.declared.sort.Sort.TheVariants as sorts
use Rattle.expression_grammar.proofs.Languages.{is_sign_of, is_apart}
use Rattle.expression_grammar.proofs.Operators.{sign_tells, operator_apart}
use Rattle.expression_grammar.proofs.TokenKinds.{HasKind, word_is, one_kind, word_kind, text_kind, name_kind, money_kind}
use Rattle.rule_tree.specs.Formula.{ors, ands, relations, sums, products, rules_language, primary, formula, number, quoted, current, reference, stet, continue, bracket, simple, dimension, in_brackets, first_argument, is_if, call}
use Rattle.rule_tree.specs.RuleText.{elements, entry, area, ended, part, leaf_first, cons_first, body, statement, database, target, feeder, skipcheck, automatic, feeders, rules}
use Rattle.rule_tree.specs.Sizes.{nodes, body_nodes, all_nodes, all_targets}
use Rattle.rule_tree.specs.declared.rule.StatementText.{StatementText}
use Rattle.rule_tree.specs.declared.rule.FeederText.{FeederText}
use Rattle.rule_tree.specs.declared.rule.RuleText.{RuleText}
use Rattle.rule_tree.specs.declared.rule.TargetText.{TargetText}
use Rattle.rule_tree.specs.declared.tree.Tree.{Tree}
use Rattle.rule_tree.specs.declared.tree.Tree.TheVariants as trees
use Rattle.rule_tree.specs.declared.tree.TreeOp.{TreeOp}
use Rattle.rule_tree.proofs.Nodes.{nodes-number, nodes-text, nodes-current, nodes-bracket, nodes-stet, nodes-continue, nodes-call, nodes-minus, nodes-not, nodes-binary}
use Rattle.rule_reader.proofs.PrimaryExact.{word_name_kind}
use Rattle.rule_reader.proofs.Fits.{Fits, Free, fits_done, fits_one, fits_both, fits_either, fits_many, fits_behind, fits_lighter, fits_any, fits_listed, fits_perhaps}

marks_kind : (w : List ℕ) → HasKind (one (word w)) kinds.Word
marks_kind w = one_kind (word w) kinds.Word (λ t a e. word_is t.kind (and_is (is_word_kind t.kind) (str_eq_ignore_ascii_case t.piece w) (when_picks (is_word w) position_of t a e).0).0)

module _ (signs : List ℕ → Bool) where
  abbrev P : Lexeme → Bool
  P = is_sign_of signs

  -- a token of another kind is none of these signs, and another sign neither
  apart_kind : {A : Type 0} {pick : Lexeme → Option A} {k : Kind} → HasKind (one pick) k → is_sign_kind k ≡ false → Begins (one pick) P false
  apart_kind e other = record { at = λ u a h. (let (t, v, is, kind) = e.at u a h in (t, v, is, ap (λ k. is_sign_kind k && signs t.piece) kind ∙ ap (λ b. b && signs t.piece) other)) }

  apart_sign : (s : List ℕ) → signs s ≡ false → Begins (one (sign s)) P false
  apart_sign s other = subst (Begins (one (sign s)) P) other (sign_tells signs s)

  -- none of them is a sign of lists and brackets
  pub record AreApart : Type 0 where
    pub comma : signs (codes ",") ≡ false
    pub colon : signs (codes ":") ≡ false
    pub opening : signs (codes "[") ≡ false
    pub closing : signs (codes "]") ≡ false
    pub left : signs (codes "{") ≡ false
    pub right : signs (codes "}") ≡ false

  module _ (apart : AreApart) where
    free_sign : (s : List ℕ) → signs s ≡ false → Free P (one (sign s))
    free_sign s other = fits_one (apart_sign s other) (λ _. omega arith)

    free_name : Free P (one name)
    free_name = fits_one (apart_kind name_kind refl) (λ _. omega arith)

    free_comma : Begins (one (sign (codes ","))) P false
    free_comma = apart_sign (codes ",") apart.comma

    -- lists whose items aren't weighed
    unweighed : {A : Type 0} (list : List A) → 0 ≤ sum_by (λ (_ : A). 0) list
    unweighed list = omega arith

    free_perhaps : {A : Type 0} {G : Grammar Lexeme A} → Free P G → Free P (perhaps_listed G G)
    free_perhaps g = fits_lighter unweighed (fits_perhaps (λ _. 0) free_comma g g)

    free_in_brackets : {A : Type 0} {item : Grammar Lexeme A} → Free P item → Fits P 0 (in_brackets item) (λ _. 1)
    free_in_brackets item = fits_both (fits_one {w = λ _. 1} (apart_sign (codes "[") apart.opening) (λ _. omega arith))
        (λ _. fits_both (fits_behind 1 (free_perhaps item)) (λ items. fits_both (fits_behind 1 (free_sign (codes "]") apart.closing)) (λ _. fits_done (omega arith))))

    free_dimension : Free P dimension
    free_dimension = fits_either (fits_both free_name (λ dim. fits_both (free_sign (codes ":") apart.colon) (λ _. fits_done (omega arith)))) (fits_done (omega arith))

    free_simple : Free P simple
    free_simple = fits_both free_dimension (λ dim. fits_both free_name (λ element. fits_done (omega arith)))

    pub fits_bracket : Fits P 0 bracket (λ _. 1)
    fits_bracket = free_in_brackets free_simple

    free_elements : Free P elements
    free_elements = fits_either (fits_both free_name (λ element. fits_done (omega arith)))
        (fits_both (free_sign (codes "{") apart.left) (λ _. fits_both (fits_lighter unweighed (fits_listed (λ _. 0) free_comma free_name free_name)) (λ all. fits_both (free_sign (codes "}") apart.right) (λ _. fits_done (omega arith)))))

    free_entry : Free P entry
    free_entry = fits_both free_dimension (λ dim. fits_both free_elements (λ all. fits_done (omega arith)))

    pub fits_area : Fits P 0 area (λ _. 1)
    fits_area = free_in_brackets free_entry

-- the signs that end an area
abbrev pub ends_area : List ℕ → Bool
ends_area piece = bytes_eq piece (codes "=") || bytes_eq piece (codes "=>")

pub area_fits : Fits (is_sign_of ends_area) 0 area (λ _. 1)
area_fits = fits_area ends_area (record { comma = refl; colon = refl; opening = refl; closing = refl; left = refl; right = refl })

-- Formulas, in which no `;` stands.

abbrev ends_formula : List ℕ → Bool
ends_formula piece = bytes_eq piece (codes ";")

abbrev Q : Lexeme → Bool
Q = is_sign (codes ";")

formula_apart : AreApart ends_formula
formula_apart = record { comma = refl; colon = refl; opening = refl; closing = refl; left = refl; right = refl }

-- one token, behind so many
token : {A : Type 0} {pick : Lexeme → Option A} (n : ℕ) → Begins (one pick) Q false → Fits Q n (one pick) (λ _. n + 1)
token n begins = fits_one begins (λ _. omega arith)

a_sign : (n : ℕ) (s : List ℕ) → ends_formula s ≡ false → Fits Q n (one (sign s)) (λ _. n + 1)
a_sign n s other = token n (apart_sign ends_formula s other)

number_fits : Fits Q 0 number nodes
number_fits = fits_both (token 0 (apart_kind ends_formula money_kind refl)) (λ k. fits_done (omega (arith, nodes-number k)))

quoted_fits : Fits Q 0 quoted nodes
quoted_fits = fits_both (token 0 (apart_kind ends_formula text_kind refl)) (λ bytes. fits_done (omega (arith, nodes-text bytes)))

current_fits : Fits Q 0 current nodes
current_fits = fits_both (a_sign 0 (codes "!") refl) (λ _. fits_both {w = λ _. 2}
    (fits_either (token 1 (apart_kind ends_formula word_name_kind refl)) (token 1 (apart_kind ends_formula name_kind refl)))
    (λ dim. fits_done (omega (arith, nodes-current dim))))

reference_fits : Fits Q 0 reference nodes
reference_fits = fits_both (fits_bracket ends_formula formula_apart) (λ simples. fits_done (omega (arith, nodes-bracket simples)))

stet_fits : Fits Q 0 stet nodes
stet_fits = fits_both (token 0 (apart_kind ends_formula (marks_kind (codes "STET")) refl)) (λ _. fits_done (omega (arith, nodes-stet)))

continue_fits : Fits Q 0 continue nodes
continue_fits = fits_both (token 0 (apart_kind ends_formula (marks_kind (codes "CONTINUE")) refl)) (λ _. fits_done (omega (arith, nodes-continue)))

first_fits : (b : Bool) (V T : Grammar Lexeme Tree) → Fits Q 0 V nodes → Fits Q 0 T nodes → Fits Q 0 (first_argument b V T) nodes
first_fits true V T v t = t
first_fits false V T v t = v

call_fits : (V T : Grammar Lexeme Tree) → Fits Q 0 V nodes → Fits Q 0 T nodes → Fits Q 0 (call V T) nodes
call_fits V T v t =
    fits_both (token 0 (apart_kind ends_formula word_kind refl)) (λ function. fits_both (a_sign 1 (codes "(") refl)
    (λ _. fits_both (fits_behind 2 (fits_perhaps nodes (apart_sign ends_formula (codes ",") refl) (first_fits (is_if function) V T v t) v))
    (λ arguments. fits_both (a_sign (2 + sum_by nodes arguments) (codes ")") refl) (λ _. fits_done (omega (arith, nodes-call function arguments, sum-map nodes arguments))))))

primary_fits : (V T : Grammar Lexeme Tree) → Fits Q 0 V nodes → Fits Q 0 T nodes → Fits Q 0 (primary V T) nodes
primary_fits V T v t = fits_either number_fits (fits_either quoted_fits (fits_either current_fits (fits_either reference_fits (fits_either stet_fits (fits_either continue_fits (call_fits V T v t))))))

abbrev joined_by : TreeOp → Tree → Tree → Tree
joined_by o left right = trees.Binary o left right

abbrev operation_nodes : TreeOp × Tree → ℕ
operation_nodes x = 1 + nodes x.1

from_left_nodes : (list : List (TreeOp × Tree)) (e : Tree) → nodes (from_left joined_by e list) ≤ nodes e + sum_by operation_nodes list
from_left_nodes [] e = omega arith
from_left_nodes (x ∷ list) e = omega (arith, from_left_nodes list (trees.Binary x.0 e x.1), nodes-binary x.0 e x.1, sum_by-cons operation_nodes x list)

operation_fits : (table : Table TreeOp) (operand : Grammar Lexeme Tree) → is_apart ends_formula table ≡ true → Fits Q 0 operand nodes → Fits Q 0 (operation table operand) operation_nodes
operation_fits table operand apart f = fits_both (token 0 (operator_apart ends_formula table apart)) (λ o. fits_both (fits_behind 1 f) (λ right. fits_done (omega arith)))

chain_fits : (table : Table TreeOp) (operand : Grammar Lexeme Tree) → is_apart ends_formula table ≡ true → Fits Q 0 operand nodes → Fits Q 0 (chain joined_by table operand) nodes
chain_fits table operand apart f = fits_both f (λ head. fits_both (fits_many {w = operation_nodes} (operation_fits table operand apart f)) (λ rest. fits_done (from_left_nodes rest head)))

prefixed_fits : (before : List ℕ) (make : Tree → Tree) → ends_formula before ≡ false → ((e : Tree) → nodes (make e) ≡ 1 + nodes e) → (operand : Grammar Lexeme Tree) → Fits Q 0 operand nodes → Fits Q 0 (prefixed before make operand) nodes
prefixed_fits before make other made operand f = fits_either (fits_both (a_sign 0 before other) (λ _. fits_both (fits_behind 1 f) (λ e. fits_done (omega (arith, made e))))) f

enclosed_fits : (G : Grammar Lexeme Tree) → Fits Q 0 G nodes → Fits Q 0 (enclosed G) nodes
enclosed_fits G g = fits_both (a_sign 0 (codes "(") refl) (λ _. fits_both (fits_behind 1 g) (λ e. fits_both (a_sign (1 + nodes e) (codes ")") refl) (λ _. fits_done (omega arith))))

value_fits : (V T : Grammar Lexeme Tree) → Fits Q 0 V nodes → Fits Q 0 T nodes → Fits Q 0 (value_of rules_language primary V T) nodes
value_fits V T v t =
    let signed : Grammar Lexeme Tree = prefixed (codes "-") (λ e. trees.Minus e) (either (enclosed V) (primary V T)) in
    chain_fits sums (chain joined_by products signed) refl
    (chain_fits products signed refl (prefixed_fits (codes "-") (λ e. trees.Minus e) refl nodes-minus (either (enclosed V) (primary V T)) (fits_either (enclosed_fits V v) (primary_fits V T v t))))

comparison_fits : (V : Grammar Lexeme Tree) → Fits Q 0 V nodes → Fits Q 0 (comparison rules_language V) nodes
comparison_fits V v = fits_both v (λ left. fits_both (token (nodes left) (operator_apart ends_formula relations refl)) (λ o. fits_both (fits_behind (nodes left + 1) v) (λ right. fits_done (omega (arith, nodes-binary o left right)))))

truth_fits : (V T : Grammar Lexeme Tree) → Fits Q 0 V nodes → Fits Q 0 T nodes → Fits Q 0 (truth_of rules_language primary V T) nodes
truth_fits V T v t =
    let atom : Grammar Lexeme Tree = either (enclosed T) (comparison rules_language (value_of rules_language primary V T)) in
    let turned : Grammar Lexeme Tree = prefixed (codes "~") (λ e. trees.Not e) atom in
    chain_fits ors (chain joined_by ands turned) refl
    (chain_fits ands turned refl (prefixed_fits (codes "~") (λ e. trees.Not e) refl nodes-not atom (fits_either (enclosed_fits T t) (comparison_fits (value_of rules_language primary V T) (value_fits V T v t)))))

within_fits : (h : ℕ) (sort : Sort) → Fits Q 0 (within rules_language primary h sort) nodes
within_fits zero sorts.Value = record { at = λ u e h. absurd h }
within_fits zero sorts.Truth = record { at = λ u e h. absurd h }
within_fits (suc h) sorts.Value = value_fits (within rules_language primary h sorts.Value) (within rules_language primary h sorts.Truth) (within_fits h sorts.Value) (within_fits h sorts.Truth)
within_fits (suc h) sorts.Truth = truth_fits (within rules_language primary h sorts.Value) (within rules_language primary h sorts.Truth) (within_fits h sorts.Value) (within_fits h sorts.Truth)

pub formula_fits : Fits Q 0 formula nodes
formula_fits = record { at = λ u a (h, g). (within_fits h sorts.Value).at u a g }

database_fits : Fits Q 0 database (λ _. 1)
database_fits = fits_both (token 0 (apart_kind ends_formula (marks_kind (codes "DB")) refl)) (λ _. fits_both (a_sign 1 (codes "(") refl)
    (λ _. fits_both (fits_behind 2 (fits_listed nodes (apart_sign ends_formula (codes ",") refl) formula_fits formula_fits))
    (λ arguments. fits_both (a_sign (2 + sum_by nodes arguments) (codes ")") refl) (λ _. fits_done (omega arith)))))

target_fits : Fits Q 0 target (λ _. 1)
target_fits = fits_either (fits_both (fits_bracket ends_formula formula_apart) (λ simples. fits_done (omega arith))) database_fits

by_ones : (list : List TargetText) → sum_by (λ _. 1) list ≡ length list
by_ones [] = refl
by_ones (x ∷ list) = omega (arith, sum_by-cons (λ (_ : TargetText). 1) x list, by_ones list)

pub targets_fit : Fits Q 0 (listed target target) (λ list. length list)
targets_fit = fits_lighter (λ list. omega (arith, by_ones list)) (fits_listed (λ _. 1) (apart_sign ends_formula (codes ",") refl) target_fits target_fits)

-- Whole texts, with all of their tokens.

abbrev N : Lexeme → Bool
N _ = false

any_token : {A : Type 0} {pick : Lexeme → Option A} (n : ℕ) → Fits N n (one pick) (λ _. n)
any_token n = fits_one (begins_one _ N false (λ _ _ _. refl)) (λ _. omega arith)

ended_fits : (n : ℕ) → Fits N n ended (λ tree. n + nodes tree)
ended_fits n = fits_both (fits_behind n (fits_any formula_fits)) (λ tree. fits_both (any_token (n + nodes tree)) (λ _. fits_done (omega arith)))

part_fits : (n : ℕ) (mark : List ℕ) → Fits N n (part mark) (λ tree. n + nodes tree)
part_fits n mark = fits_both (any_token n) (λ _. fits_both (any_token n) (λ _. ended_fits n))

leaf_first_fits : Fits N 0 leaf_first body_nodes
leaf_first_fits = fits_both (part_fits 0 (codes "N")) (λ leaf. fits_either (fits_both (part_fits (0 + nodes leaf) (codes "C")) (λ cons. fits_done (omega arith))) (fits_done (omega arith)))

cons_first_fits : Fits N 0 cons_first body_nodes
cons_first_fits = fits_both (part_fits 0 (codes "C")) (λ cons. fits_either (fits_both (part_fits (0 + nodes cons) (codes "N")) (λ leaf. fits_done (omega arith))) (fits_done (omega arith)))

body_fits : Fits N 0 body body_nodes
body_fits = fits_either leaf_first_fits (fits_either cons_first_fits (fits_both (ended_fits 0) (λ tree. fits_done (omega arith))))

statement_fits : Fits N 0 statement (λ s. body_nodes s.body)
statement_fits = fits_both {w = λ _. 0} (fits_lighter (λ _. omega arith) (fits_any area_fits)) (λ cells. fits_both (any_token 0) (λ _. fits_both body_fits (λ given. fits_done (omega arith))))

feeder_fits : Fits N 0 feeder (λ f. length f.targets)
feeder_fits = fits_both {w = λ _. 0} (fits_lighter (λ _. omega arith) (fits_any area_fits)) (λ cells. fits_both (any_token 0) (λ _. fits_both (fits_any targets_fit) (λ fed. fits_both (any_token (length fed)) (λ _. fits_done (omega arith)))))

skipcheck_fits : Fits N 0 skipcheck (λ _. 0)
skipcheck_fits = fits_either (fits_both (any_token 0) (λ _. fits_both (any_token 0) (λ _. fits_done (omega arith)))) (fits_done (omega arith))

automatic_fits : (n : ℕ) → Fits N n automatic (λ _. n)
automatic_fits n = fits_either (fits_both (any_token n) (λ _. fits_done (omega arith))) (fits_done (omega arith))

feeders_fit : (n : ℕ) → Fits N n feeders (λ feeding. n + all_targets feeding.1)
feeders_fit n = fits_either (fits_both (any_token n) (λ _. fits_both (automatic_fits n) (λ finds. fits_both (any_token n) (λ _. fits_both (fits_many {w = λ (f : FeederText). length f.targets} feeder_fits) (λ given. fits_done (omega arith)))))) (fits_done (omega arith))

abbrev text_size : RuleText → ℕ
text_size text = all_nodes text.statements + all_targets text.feeders

rules_fit : Fits N 0 rules text_size
rules_fit = fits_both skipcheck_fits (λ skips. fits_both (fits_many {w = λ (s : StatementText). body_nodes s.body} statement_fits) (λ statements. fits_both (feeders_fit (0 + all_nodes statements)) (λ feeding. fits_done (omega arith))))

pub text_fits : (ts : List Lexeme) (text : RuleText) → rules ts text → all_nodes text.statements + all_targets text.feeders ≤ length ts
text_fits ts text h = omega (arith, (rules_fit.at ts text h).0)
