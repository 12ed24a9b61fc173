-- The rules that are read of a text can be written.
use Rattle.std.proofs.Common.{◌≡◌, ℕ, zero, suc, List, [], ◌∷◌, Bool, true, false, not, ◌&&◌, refl, ap, ◌∙◌, codes}
use Rattle.std.proofs.lemmas.Bool.{and_from, and_parts}
use Rattle.std.specs.Int.{is_negative}
use Rattle.std.specs.List.{list_all}
use Rattle.cube_fixed.specs.Range.{is_in_range}
use Rattle.cube_lex.specs.Lexeme.{Lexeme}
use Rattle.cube_lex.specs.Quoted.{unquoted}
use Rattle.dim_name.specs.Name.{is_name}
use Rattle.grammar.specs.Grammar.{Grammar, one, either}
use Rattle.grammar.specs.Tokens.{is_word_kind, is_text_kind, capitals, name}
use Rattle.grammar.proofs.Tokens.{when_picks, and_is}
use Rattle.expression_grammar.specs.Expression.{from_left, chain, prefixed, enclosed, value_of, comparison, truth_of, within}
use Rattle.expression_grammar.specs.Language.{Table}
use Rattle.expression_grammar.specs.declared.sort.Sort.{Sort}
use Rattle.expression_grammar.specs.declared.sort.Sort.TheVariants as sorts
use Rattle.grammar.specs.Lists.{listed, perhaps_listed}
use Rattle.rule_tree.specs.Formula.{ors, ands, sums, products, rules_language, primary, formula, number, quoted, current, reference, stet, continue, bracket, simple, dimension, first_argument, is_if, call}
use Rattle.rule_tree.specs.RuleText.{elements, entry, area, ended, part, leaf_first, cons_first, body, statement, target, feeder, feeders, rules}
use Rattle.rule_printer.specs.Writable.{is_quotable, is_short_word, is_marked, is_writable_dimension, is_writable_simple, is_writable, is_writable_entry, is_writable_body, is_writable_statement, is_writable_target, is_writable_feeder, are_writable}
use Rattle.rule_tree.specs.declared.tree.Tree.{Tree}
use Rattle.rule_tree.specs.declared.tree.Tree.TheVariants as trees
use Rattle.rule_tree.specs.declared.tree.TreeOp.{TreeOp}
use Rattle.grammar.proofs.Kept.{Keeps, keeps_any, keeps_done, keeps_one, keeps_both, keeps_either}
use Rattle.rule_printer.proofs.Formed.{formed_text, formed_word_name, formed_marked, formed_function, formed_number, keeps_all}
use Rattle.rule_printer.proofs.PrintedWords.{money_picks}
use Rattle.rule_printer.proofs.WritableTrees.{writable_number, writable_text, writable_current, writable_bracket, writable_stet, writable_continue, writable_call, writable_minus, writable_not, writable_binary}

-- Tokens.

keeps_name : Keeps (one name) (λ n. is_quotable n ≡ true)
keeps_name = keeps_one (λ t n formed picks. (
    let (both_hold, same) = when_picks (λ (t : Lexeme). is_text_kind t.kind && is_name (unquoted t.piece)) (λ t. unquoted t.piece) t n picks in
    formed_text t n formed (and_is (is_text_kind t.kind) (is_name (unquoted t.piece)) both_hold).0 same))

-- items with a `,` between
keeps_listed : {A : Type 0} {F G : Grammar Lexeme A} (p : A → Bool) → Keeps F (λ a. p a ≡ true) → Keeps G (λ a. p a ≡ true) → Keeps (listed F G) (λ list. list_all p list ≡ true)
keeps_listed p f g = keeps_both f (λ first is. keeps_both (keeps_all p (keeps_both keeps_any (λ _ _. g))) (λ rest all. keeps_done (and_from (p first) (list_all p rest) is all)))

keeps_perhaps : {A : Type 0} {F G : Grammar Lexeme A} (p : A → Bool) → Keeps F (λ a. p a ≡ true) → Keeps G (λ a. p a ≡ true) → Keeps (perhaps_listed F G) (λ list. list_all p list ≡ true)
keeps_perhaps p f g = keeps_either (keeps_listed p f g) (keeps_done refl)

keeps_dimension : Keeps dimension (λ dim. is_writable_dimension dim ≡ true)
keeps_dimension = keeps_either (keeps_both keeps_name (λ dim is. keeps_both keeps_any (λ _ _. keeps_done is))) (keeps_done refl)

keeps_simple : Keeps simple (λ s. is_writable_simple s ≡ true)
keeps_simple = keeps_both keeps_dimension (λ dim is. keeps_both keeps_name (λ element also. keeps_done (and_from (is_writable_dimension dim) (is_quotable element) is also)))

keeps_bracket : Keeps bracket (λ list. list_all is_writable_simple list ≡ true)
keeps_bracket = keeps_both keeps_any (λ _ _. keeps_both (keeps_perhaps is_writable_simple keeps_simple keeps_simple) (λ list all. keeps_both keeps_any (λ _ _. keeps_done all)))

-- Formulas.

abbrev Written : Tree → Type 0
Written e = is_writable e ≡ true

joined_written : (op : TreeOp) (left right : Tree) → Written left → Written right → Written (trees.Binary op left right)
joined_written op left right a b = writable_binary op left right ∙ and_from (is_writable left) (is_writable right) a b

keeps_number : Keeps number Written
keeps_number = keeps_both (keeps_one {P = λ z. (is_negative z ≡ false) × (is_in_range z ≡ true)} (λ t z formed picks. (let (kind, within, says) = money_picks t z picks in (formed_number t z formed kind says, within))))
    (λ z is. keeps_done (writable_number z ∙ and_from (not (is_negative z)) (is_in_range z) (ap not is.0) is.1))

keeps_quoted : Keeps quoted Written
keeps_quoted = keeps_both (keeps_one {P = λ b. is_quotable b ≡ true} (λ t b formed picks. (let (kind, same) = when_picks (λ (t : Lexeme). is_text_kind t.kind) (λ t. unquoted t.piece) t b picks in formed_text t b formed kind same)))
    (λ b is. keeps_done (writable_text b ∙ is))

keeps_current : Keeps current Written
keeps_current = keeps_both keeps_any (λ _ _. keeps_both
    (keeps_either {P = λ dim. is_marked dim ≡ true}
    (keeps_one (λ t dim formed picks. (
    let (both_hold, same) = when_picks (λ (t : Lexeme). is_word_kind t.kind && is_name t.piece) (λ t. t.piece) t dim picks in
    formed_word_name t dim formed (and_is (is_word_kind t.kind) (is_name t.piece) both_hold).0 same)))
    (keeps_one (λ t dim formed picks. (
    let (both_hold, same) = when_picks (λ (t : Lexeme). is_text_kind t.kind && is_name (unquoted t.piece)) (λ t. unquoted t.piece) t dim picks in
    formed_marked t dim formed (and_is (is_text_kind t.kind) (is_name (unquoted t.piece)) both_hold).0 same))))
    (λ dim is. keeps_done (writable_current dim ∙ is)))

keeps_reference : Keeps reference Written
keeps_reference = keeps_both keeps_bracket (λ list all. keeps_done (writable_bracket list ∙ all))

keeps_stet : Keeps stet Written
keeps_stet = keeps_both keeps_any (λ _ _. keeps_done writable_stet)

keeps_continue : Keeps continue Written
keeps_continue = keeps_both keeps_any (λ _ _. keeps_done writable_continue)

keeps_first : (b : Bool) (V T : Grammar Lexeme Tree) → Keeps V Written → Keeps T Written → Keeps (first_argument b V T) Written
keeps_first true V T v t = t
keeps_first false V T v t = v

keeps_call : (V T : Grammar Lexeme Tree) → Keeps V Written → Keeps T Written → Keeps (call V T) Written
keeps_call V T v t =
    keeps_both (keeps_one {P = λ f. is_short_word f ≡ true} (λ x f formed picks. (let (kind, same) = when_picks (λ (t : Lexeme). is_word_kind t.kind) (λ t. capitals t.piece) x f picks in formed_function x f formed kind same)))
    (λ f is. keeps_both keeps_any (λ _ _. keeps_both (keeps_perhaps is_writable (keeps_first (is_if f) V T v t) v)
    (λ arguments all. keeps_both keeps_any (λ _ _. keeps_done (writable_call f arguments ∙ and_from (is_short_word f) (list_all is_writable arguments) is all)))))

keeps_primary : (V T : Grammar Lexeme Tree) → Keeps V Written → Keeps T Written → Keeps (primary V T) Written
keeps_primary V T v t = keeps_either keeps_number (keeps_either keeps_quoted (keeps_either keeps_current (keeps_either keeps_reference (keeps_either keeps_stet (keeps_either keeps_continue (keeps_call V T v t))))))

keeps_operations : (list : List (TreeOp × Tree)) (e : Tree) → Written e → list_all (λ x. is_writable x.1) list ≡ true → Written (from_left (λ o left right. trees.Binary o left right) e list)
keeps_operations [] e is all = is
keeps_operations (x ∷ list) e is all =
    let (here, more) = and_parts (is_writable x.1) (list_all (λ x. is_writable x.1) list) all in
    keeps_operations list (trees.Binary x.0 e x.1) (joined_written x.0 e x.1 is here) more

keeps_chain : (table : Table TreeOp) (operand : Grammar Lexeme Tree) → Keeps operand Written → Keeps (chain (λ o left right. trees.Binary o left right) table operand) Written
keeps_chain table operand k = keeps_both k (λ head is. keeps_both (keeps_all (λ x. is_writable x.1) (keeps_both keeps_any (λ o _. keeps_both k (λ right also. keeps_done also)))) (λ list all. keeps_done (keeps_operations list head is all)))

keeps_prefixed : (before : List ℕ) (make : Tree → Tree) → ((e : Tree) → Written e → Written (make e)) → (operand : Grammar Lexeme Tree) → Keeps operand Written → Keeps (prefixed before make operand) Written
keeps_prefixed before make made operand k = keeps_either (keeps_both keeps_any (λ _ _. keeps_both k (λ e is. keeps_done (made e is)))) k

keeps_enclosed : (G : Grammar Lexeme Tree) → Keeps G Written → Keeps (enclosed G) Written
keeps_enclosed G g = keeps_both keeps_any (λ _ _. keeps_both g (λ e is. keeps_both keeps_any (λ _ _. keeps_done is)))

keeps_value : (V T : Grammar Lexeme Tree) → Keeps V Written → Keeps T Written → Keeps (value_of rules_language primary V T) Written
keeps_value V T v t =
    let signed : Grammar Lexeme Tree = prefixed (codes "-") (λ e. trees.Minus e) (either (enclosed V) (primary V T)) in
    keeps_chain sums (chain (λ o left right. trees.Binary o left right) products signed)
    (keeps_chain products signed (keeps_prefixed (codes "-") (λ e. trees.Minus e) (λ e is. writable_minus e ∙ is) (either (enclosed V) (primary V T)) (keeps_either (keeps_enclosed V v) (keeps_primary V T v t))))

keeps_comparison : (V : Grammar Lexeme Tree) → Keeps V Written → Keeps (comparison rules_language V) Written
keeps_comparison V v = keeps_both v (λ left is. keeps_both keeps_any (λ o _. keeps_both v (λ right also. keeps_done (joined_written o left right is also))))

keeps_truth : (V T : Grammar Lexeme Tree) → Keeps V Written → Keeps T Written → Keeps (truth_of rules_language primary V T) Written
keeps_truth V T v t =
    let atom : Grammar Lexeme Tree = either (enclosed T) (comparison rules_language (value_of rules_language primary V T)) in
    let turned : Grammar Lexeme Tree = prefixed (codes "~") (λ e. trees.Not e) atom in
    keeps_chain ors (chain (λ o left right. trees.Binary o left right) ands turned)
    (keeps_chain ands turned (keeps_prefixed (codes "~") (λ e. trees.Not e) (λ e is. writable_not e ∙ is) atom (keeps_either (keeps_enclosed T t) (keeps_comparison (value_of rules_language primary V T) (keeps_value V T v t)))))

keeps_within : (h : ℕ) (sort : Sort) → Keeps (within rules_language primary h sort) Written
keeps_within zero sort = record { at = λ u e formed h. absurd (none sort u e h) } where
  none : (sort : Sort) (u : List Lexeme) (e : Tree) → within rules_language primary zero sort u e → ⊥
  none sorts.Value u e h = h
  none sorts.Truth u e h = h
keeps_within (suc h) sorts.Value = keeps_value (within rules_language primary h sorts.Value) (within rules_language primary h sorts.Truth) (keeps_within h sorts.Value) (keeps_within h sorts.Truth)
keeps_within (suc h) sorts.Truth = keeps_truth (within rules_language primary h sorts.Value) (within rules_language primary h sorts.Truth) (keeps_within h sorts.Value) (keeps_within h sorts.Truth)

keeps_formula : Keeps formula Written
keeps_formula = record { at = λ u e formed (h, g). (keeps_within h sorts.Value).at u e formed g }

-- Statements and feeders.

keeps_elements : Keeps elements (λ list. list_all is_quotable list ≡ true)
keeps_elements = keeps_either (keeps_both keeps_name (λ n is. keeps_done (and_from (is_quotable n) true is refl)))
    (keeps_both keeps_any (λ _ _. keeps_both (keeps_listed is_quotable keeps_name keeps_name) (λ list all. keeps_both keeps_any (λ _ _. keeps_done all))))

keeps_entry : Keeps entry (λ e. is_writable_entry e ≡ true)
keeps_entry = keeps_both keeps_dimension (λ dim is. keeps_both keeps_elements (λ list all. keeps_done (and_from (is_writable_dimension dim) (list_all is_quotable list) is all)))

keeps_area : Keeps area (λ list. list_all is_writable_entry list ≡ true)
keeps_area = keeps_both keeps_any (λ _ _. keeps_both (keeps_perhaps is_writable_entry keeps_entry keeps_entry) (λ list all. keeps_both keeps_any (λ _ _. keeps_done all)))

keeps_ended : Keeps ended Written
keeps_ended = keeps_both keeps_formula (λ e is. keeps_both keeps_any (λ _ _. keeps_done is))

keeps_part : (mark : List ℕ) → Keeps (part mark) Written
keeps_part mark = keeps_both keeps_any (λ _ _. keeps_both keeps_any (λ _ _. keeps_ended))

keeps_leaf_first : Keeps leaf_first (λ b. is_writable_body b ≡ true)
keeps_leaf_first = keeps_both (keeps_part (codes "N")) (λ leaf is. keeps_either (keeps_both (keeps_part (codes "C")) (λ cons also. keeps_done (and_from (is_writable leaf) (is_writable cons) is also))) (keeps_done is))

keeps_cons_first : Keeps cons_first (λ b. is_writable_body b ≡ true)
keeps_cons_first = keeps_both (keeps_part (codes "C")) (λ cons is. keeps_either (keeps_both (keeps_part (codes "N")) (λ leaf also. keeps_done (and_from (is_writable cons) (is_writable leaf) is also))) (keeps_done is))

keeps_body : Keeps body (λ b. is_writable_body b ≡ true)
keeps_body = keeps_either keeps_leaf_first (keeps_either keeps_cons_first (keeps_both keeps_ended (λ e is. keeps_done is)))

keeps_statement : Keeps statement (λ s. is_writable_statement s ≡ true)
keeps_statement = keeps_both keeps_area (λ cells all. keeps_both keeps_any (λ _ _. keeps_both keeps_body (λ given is. keeps_done (and_from (list_all is_writable_entry cells) (is_writable_body given) all is))))

keeps_target : Keeps target (λ t. is_writable_target t ≡ true)
keeps_target = keeps_either (keeps_both keeps_bracket (λ list all. keeps_done all))
    (keeps_both keeps_any (λ _ _. keeps_both keeps_any (λ _ _. keeps_both (keeps_listed is_writable keeps_formula keeps_formula) (λ list all. keeps_both keeps_any (λ _ _. keeps_done all)))))

keeps_feeder : Keeps feeder (λ f. is_writable_feeder f ≡ true)
keeps_feeder = keeps_both keeps_area (λ cells all. keeps_both keeps_any (λ _ _. keeps_both (keeps_listed is_writable_target keeps_target keeps_target)
    (λ fed are. keeps_both keeps_any (λ _ _. keeps_done (and_from (list_all is_writable_entry cells) (list_all is_writable_target fed) all are)))))

keeps_feeders : Keeps feeders (λ feeding. list_all is_writable_feeder feeding.1 ≡ true)
keeps_feeders = keeps_either (keeps_both keeps_any (λ _ _. keeps_both keeps_any (λ finds _. keeps_both keeps_any (λ _ _. keeps_both (keeps_all is_writable_feeder keeps_feeder) (λ given all. keeps_done all))))) (keeps_done refl)

-- rules of a text
pub keeps_rules : Keeps rules (λ text. are_writable text ≡ true)
keeps_rules = keeps_both keeps_any (λ skips _. keeps_both (keeps_all is_writable_statement keeps_statement) (λ statements all. keeps_both keeps_feeders
    (λ feeding are. keeps_done (and_from (list_all is_writable_statement statements) (list_all is_writable_feeder feeding.1) all are))))
