-- The readers of expressions are exact, for each language.
use Rattle.std.proofs.Common.{ℕ, zero, suc, List, [], ◌++◌, Bool, true, false, refl, sym, inr, append-nil, codes}
use Rattle.cube_lex.specs.Lexeme.{Lexeme}
use Rattle.grammar.specs.Grammar.{Grammar, one}
use Rattle.grammar.specs.Tokens.{sign, is_sign}
use Rattle.grammar.specs.Watch.{each_token}
use Rattle.grammar.proofs.Exact.{Exact, Outcome, Agrees, Not, exact_by}
use Rattle.grammar.proofs.Begins.{Begins}
use Rattle.grammar.proofs.Tokens.{sign_begins}
use Rattle.grammar.proofs.Many.{Shortens, shortens}
use Rattle.expression_grammar.specs.Language.{Table, Language}
use Rattle.expression_grammar.specs.Expression.{Primaries, chain, within, expression}
use Rattle.expression_grammar.specs.Readers.Reading.{Scanner, PrimaryReader, read_expression, tree_of, only}
use Rattle.expression_grammar.specs.declared.sort.Sort.{Sort}
use Rattle.expression_grammar.specs.declared.sort.Sort.TheVariants as sorts
use Rattle.expression_grammar.specs.declared.sort.Want.{Want}
use Rattle.expression_grammar.specs.declared.sort.Want.TheVariants as wants
use Rattle.expression_grammar.proofs.Languages.{on_primary, on_expression, goes_on, IsLanguage}
use Rattle.expression_grammar.proofs.Operators.{sign_tells, exact_operator}
use Rattle.expression_grammar.proofs.Levels.{sorted}
use Rattle.expression_grammar.proofs.Parts.{disjunctions, disjunctions_begin}
use Rattle.expression_grammar.proofs.OneNesting.{relation_filled, exact_tree, or_exact}

-- whether a sign goes on with an expression is seen from the tables
pub sign_goes_on : {A O : Type 0} (L : Language A O) (a : List ℕ) → Begins (one (sign a)) (goes_on L) (on_expression L a)
sign_goes_on L a = sign_tells (on_expression L) a

module _ {A O : Type 0} (L : Language A O) (primary : Primaries A) where
  into_within : (h : ℕ) (want : Want) (u : List Lexeme) (x : A × Sort) → sorted (disjunctions L primary (within L primary h)) want u x → sorted (within L primary (suc h)) want u x
  into_within h want u (e, sorts.Value) k = k
  into_within h want u (e, sorts.Truth) k = k

  back_within : (h : ℕ) (want : Want) (u : List Lexeme) (x : A × Sort) → sorted (within L primary (suc h)) want u x → sorted (disjunctions L primary (within L primary h)) want u x
  back_within h want u (e, sorts.Value) k = k
  back_within h want u (e, sorts.Truth) k = k

  -- what it begins with, by what `(`, `-`, `~` and the primaries begin with
  within_begins : {p : Lexeme → Bool} {b : Bool} → Begins (one (sign (codes "("))) p b → Begins (one (sign (codes "-"))) p b → Begins (one (sign (codes "~"))) p b → ((V T : Grammar Lexeme A) → Begins (primary V T) p b) → (h : ℕ) (sort : Sort) → Begins (within L primary h sort) p b
  within_begins parenthesis minus tilde primaries zero sort = record { at = λ u e h. absurd h }
  within_begins parenthesis minus tilde primaries (suc h) sorts.Value = disjunctions_begin L primary (within L primary h) parenthesis primaries minus tilde sorts.Value
  within_begins parenthesis minus tilde primaries (suc h) sorts.Truth = disjunctions_begin L primary (within L primary h) parenthesis primaries minus tilde sorts.Truth

-- an operand without operations
pub no_operations : {A O : Type 0} (joined : O → A → A → A) (table : Table O) (G : Grammar Lexeme A) (u : List Lexeme) (e : A) → G u e → chain joined table G u e
no_operations joined table G u e h = (u, [], e, sym (append-nil u), h, ([], [], [], refl, refl, (refl, refl)))

module _ {A O R C : Type 0} {scan : Scanner R C} {L : Language A O} {primary : Primaries A} {read : PrimaryReader R C A} (l : IsLanguage scan L primary read) where
  a_value : (u : List Lexeme) × (e : A) × within L primary 1 sorts.Value u e
  a_value = let (u, e, h) = l.sample in (u, e, no_operations L.joined L.sum _ u e (no_operations L.joined L.product _ u e (inr (inr h))))

  a_truth : (u : List Lexeme) × (e : A) × within L primary 1 sorts.Truth u e
  a_truth =
      let (u, e, h) = a_value in
      let (v, o, takes) = (exact_operator scan L.relation (relation_filled l)).word in
      let w : List Lexeme = u ++ (v ++ u) in
      let f : A = L.joined o e e in
      (w, f, no_operations L.joined L.or _ w f (no_operations L.joined L.and _ w f (inr (inr (u, v ++ u, e, refl, h, (v, u, o, refl, takes, (u, [], e, sym (append-nil u), h, (refl, refl))))))))

  a_wanted : (want : Want) → (u : List Lexeme) × (x : A × Sort) × sorted (within L primary 1) want u x
  a_wanted wants.Value = let (u, e, h) = a_value in (u, (e, sorts.Value), (tt, h))
  a_wanted wants.Truth = let (u, e, h) = a_truth in (u, (e, sorts.Truth), (tt, h))
  a_wanted wants.Any = let (u, e, h) = a_value in (u, (e, sorts.Value), (tt, h))

  -- the reader answers what is nested less deep than it may go, and takes each expression for what it is
  abbrev IsExactWithin : ℕ → ℕ → Want → Type 0
  IsExactWithin k h want = Exact (each_token scan) (sorted (within L primary (suc k)) want) (sorted (within L primary h) want) (read_expression scan L read k want) (Not (goes_on L))

  no_closing : (h : ℕ) (sort : Sort) → Begins (within L primary h sort) (is_sign (codes ")")) false
  no_closing = within_begins L primary (sign_begins (codes "(") (codes ")")) (sign_begins (codes "-") (codes ")")) (sign_begins (codes "~") (codes ")")) l.no_closing

  one_deeper : (k h : ℕ) → ((want : Want) → IsExactWithin k h want) → (want : Want) → IsExactWithin (suc k) (suc h) want
  unfolding read_expression
  one_deeper k h inner want = exact_by (into_within L primary (suc k) want) (back_within L primary h want) (or_exact l (within L primary (suc k)) (within L primary h) (no_closing h) (read_expression scan L read k) inner want)

  exact_within : (k h : ℕ) (want : Want) → IsExactWithin k h want
  unfolding read_expression Outcome Agrees
  exact_within zero h want = record {
    word = a_wanted want;
    sound = λ n ts. tt;
    complete = λ n u x rest h stops. tt;
  }
  exact_within (suc k) zero want = exact_by (λ u x h. h) (λ u x h. absurd h.1) (one_deeper k zero (exact_within k zero) want)
  exact_within (suc k) (suc h) want = one_deeper k h (exact_within k h) want

  exact_of : (k h : ℕ) (sort : Sort) → Exact (each_token scan) (within L primary (suc k) sort) (within L primary h sort) (tree_of (read_expression scan L read k (only sort))) (Not (goes_on L))
  exact_of k h sort = exact_tree scan (within L primary (suc k)) (within L primary h) sort (exact_within k h (only sort))

  expression_exact : (k : ℕ) (sort : Sort) → Exact (each_token scan) (expression L primary sort) (expression L primary sort) (tree_of (read_expression scan L read k (only sort))) (Not (goes_on L))
  expression_exact k sort =
      let told : Exact (each_token scan) (expression L primary sort) (within L primary 0 sort) (tree_of (read_expression scan L read k (only sort))) (Not (goes_on L)) = exact_by (λ u e h. (suc k, h)) (λ u e h. h) (exact_of k 0 sort) in
      record {
        word = told.word;
        sound = told.sound;
        complete = λ n u e rest (h, g) stops. (exact_of k h sort).complete n u e rest g stops;
      }

  pub value_exact : (k : ℕ) → Exact (each_token scan) (expression L primary sorts.Value) (expression L primary sorts.Value) (tree_of (read_expression scan L read k wants.Value)) (Not (goes_on L))
  value_exact k = expression_exact k sorts.Value

  pub truth_exact : (k : ℕ) → Exact (each_token scan) (expression L primary sorts.Truth) (expression L primary sorts.Truth) (tree_of (read_expression scan L read k wants.Truth)) (Not (goes_on L))
  truth_exact k = expression_exact k sorts.Truth

module _ {A O : Type 0} (L : Language A O) (primary : Primaries A) where
  -- what an expression begins with, by what `(`, `-`, `~` and the primaries begin with
  pub expression_begins : {p : Lexeme → Bool} {b : Bool} → Begins (one (sign (codes "("))) p b → Begins (one (sign (codes "-"))) p b → Begins (one (sign (codes "~"))) p b → ((V T : Grammar Lexeme A) → Begins (primary V T) p b) → (sort : Sort) → Begins (expression L primary sort) p b
  expression_begins parenthesis minus tilde primaries sort = record { at = λ u e (h, g). (within_begins L primary parenthesis minus tilde primaries h sort).at u e g }

any_token : {A : Type 0} {G : Grammar Lexeme A} {p : Lexeme → Bool} {b : Bool} → Begins G p b → Begins G (λ _. true) true
any_token e = record { at = λ u a h. (let (t, v, is, _) = e.at u a h in (t, v, is, refl)) }

module _ {A O R C : Type 0} {scan : Scanner R C} {L : Language A O} {primary : Primaries A} {read : PrimaryReader R C A} (l : IsLanguage scan L primary read) where
  -- an expression has a token
  pub expression_has_token : (sort : Sort) → Begins (expression L primary sort) (λ _. true) true
  expression_has_token sort = expression_begins L primary (any_token (sign_tells on_primary (codes "("))) (any_token (sign_tells on_primary (codes "-"))) (any_token (sign_tells on_primary (codes "~"))) (λ V T. any_token (l.no_minus V T)) sort

  pub value_shortens : (k : ℕ) → Shortens (tree_of (read_expression scan L read k wants.Value))
  value_shortens k = shortens (λ _. true) true (expression_has_token sorts.Value) (value_exact l k)

  pub truth_shortens : (k : ℕ) → Shortens (tree_of (read_expression scan L read k wants.Truth))
  truth_shortens k = shortens (λ _. true) true (expression_has_token sorts.Truth) (truth_exact l k)
