-- What the evaluation of a cell asks, and that it is answered rightly.
use Rattle.std.proofs.Common.{◌≡◌, refl, sym, ◌∙◌, ap, subst, arith, ℕ, suc, ◌<◌, ltb, eqb, Bool, true, false, ◌&&◌, ℤ, List, [], ◌∷◌, ◌++◌, drop, map, length, Contains, Option, Some, None}
use Rattle.std.specs.Prelude.{is_some, slice_get, Result, Ok, Err, IfErr, if◌then◌else◌}
use Rattle.std.specs.List.{All, range_with_len}
use Rattle.std.proofs.lemmas.Bool.Decides.{Decides-int_eq}
use Rattle.std.proofs.lemmas.Bool.{lt-ltb, ltb-true, and_parts, eq-eqb, eqb-true}
use Rattle.std.proofs.lemmas.Option.{slice_get_within}
use Rattle.std.proofs.lemmas.List.Elements.{All-head, All-tail, All-nil, All-contains, All-append, Contains-append_left, Contains-append_right}
use Rattle.accepted.specs.Checks.{IsAccepted}
use Rattle.cell_versions.specs.Versions.{NumberedVersion}
use Rattle.cube_fixed.specs.declared.value.Value.{Value}
use Rattle.cube_fixed.specs.declared.value.Value.TheVariants.{Num, Over}
use Rattle.cube_space.specs.Cells.{IsSpace, IsCell, cube_of, size_of, is_leaf_cell}
use Rattle.cube_space.specs.Layout.{axes}
use Rattle.dim_core.specs.Outline.{Outline}
use Rattle.dim_weights.specs.Table.{is_nonzero}
use Rattle.feed_sources.proofs.Members.{at-front, behind}
use Rattle.model_laws.proofs.Statements.{split}
use Rattle.rule_dense.proofs.Ranges.{map-contains}
use Rattle.rule_evaluate.specs.declared.ask.Ask.{Ask}
use Rattle.rule_evaluate.specs.declared.ask.Ask.TheVariants.{Value as of_value, Base as of_base, Children as of_children}
use Rattle.rule_evaluate.specs.Known.{Known, listed, is_same, answer_in}
use Rattle.rule_evaluate.specs.Readings.{readings_of}
use Rattle.rule_evaluate.specs.Course.{MayRead, passes}
use Rattle.rule_evaluate.proofs.AskedFacts.{all-pass}
use Rattle.rule_laws.specs.declared.formula.Formula.{Formula}
use Rattle.rule_laws.specs.Meaning.{Precedent, Named, Components, precedents}
use Rattle.rule_laws.specs.Ordered.{IsCellOf, HasPrecedent, Throughout, IsOrderedRule}
use Rattle.rule_laws.specs.RuleSystem.{Rule, part_at, depth}
use Rattle.rule_laws.proofs.SystemFacts.{part_at-given}
use Rattle.rule_model.specs.Conditions.{AreRules}
use Rattle.rule_model.specs.Governing.{rules_for}
use Rattle.rule_model.specs.System.{system_of}
use Rattle.rule_model.specs.Targets.{parts_at, with_components, component_cells}
use Rattle.stored_laws.specs.Stored.{stored_in}
use Rattle.cell_values.specs.declared.missing.Missing.{Missing}
use Rattle.cell_values.specs.Reading.{value_on}
use Rattle.cell_values.specs.Inside.Questions.{answer_on, base_on, children_on, readings_on, asks_on, depth_on, components_on, is_grounded, LeadsTo}
use Rattle.cell_values.specs.Inside.Frames.{AreRight}
use Rattle.cell_values.specs.Inside.Answers.{ListedAnswers, AnswerTerms, is_same_value, may_ask, IsMissing, AreMissing}
use Rattle.cell_values.proofs.Members.{filter-member, drop-member, all-pass as every-passes, nonzero-counts}
use Rattle.cell_values.proofs.Values.{formed, ordered}
use Rattle.cell_values.proofs.Work.{asks-has}
use Rattle.cell_values.proofs.SumFacts.{some-components}

-- ---- lists of answers

same-is : (a b : Ask) → is_same a b ≡ true → a ≡ b
same-is (of_value a) (of_value b) is = ap of_value (eqb-true a b is)
same-is (of_value a) (of_base b) is = absurd (cc)
same-is (of_value a) (of_children b e) is = absurd (cc)
same-is (of_base a) (of_value b) is = absurd (cc)
same-is (of_base a) (of_base b) is = ap of_base (eqb-true a b is)
same-is (of_base a) (of_children b e) is = absurd (cc)
same-is (of_children a d) (of_value b) is = absurd (cc)
same-is (of_children a d) (of_base b) is = absurd (cc)
same-is (of_children a d) (of_children b e) is =
    let parts = and_parts (eqb a b) (eqb d e) is in
    ap (λ (c : ℕ). of_children c d) (eqb-true a b parts.0) ∙ ap (of_children b) (eqb-true d e parts.1)

-- a listed answer is right
pub listed-right : (v : NumberedVersion) (known : Known) → AreRight v known → (q : Ask) (a : Value) → listed known q ≡ Some a → a ≡ answer_on v q
listed-right v [] right q a is = cc
listed-right v (one ∷ known) right q a is = by (is_same one.0 q) refl (λ later. listed-right v known (All-tail (λ entry. entry.1 ≡ answer_on v entry.0) one known right) q a later)
  where
    by : (b : Bool) → is_same one.0 q ≡ b → (listed known q ≡ Some a → a ≡ answer_on v q) → a ≡ answer_on v q
    by true same rest =
        let here : Some one.1 ≡ Some a = rw same at is in
        let value : one.1 ≡ a = cc in
        sym value ∙ All-head (λ entry. entry.1 ≡ answer_on v entry.0) one known right ∙ ap (answer_on v) (same-is one.0 q same)
    by false other rest = rest (rw other at is)

-- ---- what is answered

-- the answers are those of the table of values
pub readings-are : (v : NumberedVersion) → readings_on v ≡ readings_of (system_of v.model) (stored_in v.stored) (value_on v)
unfolding readings_on base_on children_on
readings-are v = refl

pub readings-value : (v : NumberedVersion) → (readings_on v).value ≡ value_on v
unfolding readings_on
readings-value v = refl

pub readings-base : (v : NumberedVersion) → (readings_on v).base ≡ base_on v
unfolding readings_on
readings-base v = refl

pub readings-children : (v : NumberedVersion) → (readings_on v).children ≡ children_on v
unfolding readings_on
readings-children v = refl

same-values : (a b : Value) → is_same_value a b ≡ true → a ≡ b
same-values (Num a) (Num b) same = ap Num ((Decides-int_eq a b).0 same)
same-values (Num a) Over same = absurd (cc)
same-values Over (Num b) same = absurd (cc)
same-values Over Over same = refl

same-self : (a : Value) → is_same_value a a ≡ true
same-self (Num a) = (Decides-int_eq a a).1 refl
same-self Over = refl

-- ---- what is asked

module _ (v : NumberedVersion) (valid : IsSpace v.model.space) (rules : AreRules v.model.space v.model.rules) (accepted : IsAccepted v.model)
    (c : ℕ) (is_cell : IsCell v.model.space c) where
  -- what a statement of the cell's cube reads there lies less deep
  reads-less : (rule : Rule) (f : Formula) → Contains (rules_for v.model c) rule → part_at (system_of v.model) c rule ≡ Some f
      → (p : Precedent) → Contains (precedents f) p → (t : ℕ) → HasPrecedent (system_of v.model) p c t → depth (system_of v.model) t < depth (system_of v.model) c
  unfolding system_of
  reads-less rule f has part p reads t precedes =
      let whole = split v.model c is_cell in
      let there : Contains (system_of v.model).rules rule =
      subst (λ (all : List Rule). Contains all rule) (sym whole.all) (Contains-append_right _ (rules_for v.model c ++ whole.back) rule (Contains-append_left (rules_for v.model c) whole.back rule has)) in
      let own = All-contains (IsOrderedRule (system_of v.model)) (system_of v.model).rules rule (ordered v valid rules accepted) there in
      let given = part_at-given (system_of v.model) c rule f part in
      let here : IsCellOf (system_of v.model) rule ((system_of v.model).is_leaf c) c = record { cell = is_cell; kind_is = refl; applied = given.0 } in
      All-contains (λ p. Throughout (system_of v.model) rule ((system_of v.model).is_leaf c) p (λ c t. depth (system_of v.model) t < depth (system_of v.model) c)) (precedents f) p
      (own ((system_of v.model).is_leaf c) f given.1) reads c t here precedes

  module _ (known : Known) (values : ℕ → Value) (are : values ≡ value_on v) where
    abbrev terms : AnswerTerms
    terms = record { listed = record { version = v; known = known; cell = c }; values = values }

    own-base : may_ask terms (of_base c) ≡ true
    own-base = let a = lt-ltb c (size_of v.model.space) is_cell in let b : eqb c c ≡ true = eq-eqb c c refl in rw (a, b) refl

    may-name : (x : ℕ) → IsCell v.model.space x → depth (system_of v.model) x < depth (system_of v.model) c → may_ask terms (of_value x) ≡ true
    unfolding depth_on
    may-name x is less =
        let a = lt-ltb x (size_of v.model.space) is in
        let b = lt-ltb (depth (system_of v.model) x) (depth (system_of v.model) c) less in
        let e : is_same_value (values x) (value_on v x) ≡ true = subst (λ (y : Value). is_same_value y (value_on v x) ≡ true) (sym (ap (λ (table : ℕ → Value). table x) are)) (same-self (value_on v x)) in
        rw (a, b, e) refl

    may-sum : (d : ℕ) → is_some (component_cells v.model.space c d) ≡ true
        → ((t : ℕ) → HasPrecedent (system_of v.model) (Components d) c t → depth (system_of v.model) t < depth (system_of v.model) c) → may_ask terms (of_children c d) ≡ true
    unfolding is_grounded components_on depth_on component_cells system_of
    may-sum d some less = by (parts_at v.model.space c d) refl
      where
        none : parts_at v.model.space c d ≡ [] → is_some (component_cells v.model.space c d) ≡ false
        none is = rw is refl

        all : 0 < length (parts_at v.model.space c d) → is_grounded v c d ≡ true
        all filled =
            every-passes (λ pair. ltb (depth_on v pair.0) (depth_on v c)) (components_on v c d 0)
            (λ pair has.
            let member = filter-member (λ pair. is_nonzero pair.1) (with_components v.model.space c d (parts_at v.model.space c d)) pair has in
            lt-ltb (depth_on v pair.0) (depth_on v c)
            (less pair.0 (with_components v.model.space c d (parts_at v.model.space c d), some-components v.model.space c d filled, (pair.1, member.0, nonzero-counts pair.1 member.1))))

        by : (parts : List (ℕ × ℤ)) → parts_at v.model.space c d ≡ parts → may_ask terms (of_children c d) ≡ true
        by [] is = let no = none is in let clash : true ≡ false = sym some ∙ no in absurd (cc)
        by (part ∷ parts) is =
            let long : length (parts_at v.model.space c d) ≡ suc (length parts) = ap length is in
            let filled : 0 < length (parts_at v.model.space c d) = omega (arith, long) in
            let a = lt-ltb c (size_of v.model.space) is_cell in
            let b : eqb c c ≡ true = eq-eqb c c refl in
            let e = lt-ltb 0 (length (parts_at v.model.space c d)) filled in
            let g = all filled in
            rw (a, b, e, g) refl

    -- all that the statements from a place on ask may be asked
    pub evaluation-passes : (k : ℕ) → passes (system_of v.model) (readings_on v) c (may_ask terms) (drop k (rules_for v.model c)) ≡ true
    unfolding system_of
    evaluation-passes k =
        all-pass (system_of v.model) (readings_on v) c (may_ask terms) own-base (drop k (rules_for v.model c)) (λ rule f has part p reads. may rule f (drop-member k (rules_for v.model c) rule has) part p reads)
      where
        may : (rule : Rule) (f : Formula) → Contains (rules_for v.model c) rule → part_at (system_of v.model) c rule ≡ Some f → (p : Precedent) → Contains (precedents f) p → MayRead (system_of v.model) (may_ask terms) c p
        may rule f has part (Named r) reads = λ x names. may-name x ((formed v valid rules accepted).target_cell r c x is_cell names) (reads-less rule f has part (Named r) reads x names)
        may rule f has part (Components d) reads = λ some. may-sum d some (reads-less rule f has part (Components d) reads)

-- ---- what is missing

module _ (at : ListedAnswers) (values : ℕ → Value) where
  abbrev own_terms : AnswerTerms
  own_terms = record { listed = at; values = values }

  pub value-within : (x : ℕ) → may_ask own_terms (of_value x) ≡ true → IsCell at.version.model.space x
  value-within x may = ltb-true x (size_of at.version.model.space) (and_parts (ltb x (size_of at.version.model.space)) _ may).0

  value-parts : (x : ℕ) → may_ask own_terms (of_value x) ≡ true → (depth_on at.version x < depth_on at.version at.cell) × (is_same_value (values x) (value_on at.version x) ≡ true)
  value-parts x may =
      let rest = (and_parts (ltb x (size_of at.version.model.space)) _ may).1 in
      let parts = and_parts (ltb (depth_on at.version x) (depth_on at.version at.cell)) (is_same_value (values x) (value_on at.version x)) rest in
      (ltb-true (depth_on at.version x) (depth_on at.version at.cell) parts.0, parts.1)

  -- what is remembered of it is right
  pub value-right : (x : ℕ) → may_ask own_terms (of_value x) ≡ true → values x ≡ value_on at.version x
  value-right x may = same-values (values x) (value_on at.version x) (value-parts x may).1

  pub value-missing : (x : ℕ) → may_ask own_terms (of_value x) ≡ true → listed at.known (of_value x) ≡ None → IsMissing at (of_value x)
  value-missing x may none =
      let inside = value-within x may in
      let less = (value-parts x may).0 in
      record {
        leads = record {
          is_asked = inside;
          leads = asks-has at.version (of_value at.cell) (of_value x)
              (behind (of_base at.cell) _ (of_value x) (Contains-append_right (map (of_children at.cell) (range_with_len 0 (length (axes at.version.model.space (cube_of at.version.model.space at.cell)))))
              (map of_value (range_with_len 0 (size_of at.version.model.space))) (of_value x) (map-contains of_value (size_of at.version.model.space) x inside)))
              (omega (arith, less));
        };
        unlisted = none;
      }

  own : (x : ℕ) (b : Bool) → ((ltb x (size_of at.version.model.space) && eqb x at.cell) && b) ≡ true → IsCell at.version.model.space x × (x ≡ at.cell) × (b ≡ true)
  own x b may =
      let outer = and_parts (ltb x (size_of at.version.model.space) && eqb x at.cell) b may in
      let parts = and_parts (ltb x (size_of at.version.model.space)) (eqb x at.cell) outer.0 in
      (ltb-true x (size_of at.version.model.space) parts.0, eqb-true x at.cell parts.1, outer.1)

  pub base-within : (x : ℕ) → may_ask own_terms (of_base x) ≡ true → IsCell at.version.model.space x
  base-within x may = ltb-true x (size_of at.version.model.space) (and_parts (ltb x (size_of at.version.model.space)) _ may).0

  pub base-missing : (x : ℕ) → may_ask own_terms (of_base x) ≡ true → is_leaf_cell at.version.model.space x ≡ false → listed at.known (of_base x) ≡ None → IsMissing at (of_base x)
  base-missing x may total none =
      let parts = and_parts (ltb x (size_of at.version.model.space)) (eqb x at.cell) may in
      let inside = ltb-true x (size_of at.version.model.space) parts.0 in
      let same : x ≡ at.cell = eqb-true x at.cell parts.1 in
      record {
        leads = record {
          is_asked = (inside, total);
          leads = subst (λ (y : ℕ). Contains (asks_on at.version (of_value at.cell)) (of_base y)) (sym same) (asks-has at.version (of_value at.cell) (of_base at.cell) (at-front (of_base at.cell) _) (omega arith));
        };
        unlisted = none;
      }

  axis : (x d : ℕ) → 0 < length (parts_at at.version.model.space x d) → d < length (axes at.version.model.space (cube_of at.version.model.space x))
  axis x d filled = by (slice_get (axes at.version.model.space (cube_of at.version.model.space x)) d) refl
    where
      by : (o : Option Outline) → slice_get (axes at.version.model.space (cube_of at.version.model.space x)) d ≡ o → d < length (axes at.version.model.space (cube_of at.version.model.space x))
      by None is = let none : length (parts_at at.version.model.space x d) ≡ 0 = rw is refl in absurd (omega (arith, none, filled))
      by (Some o) is = slice_get_within (axes at.version.model.space (cube_of at.version.model.space x)) d o is

  pub children-missing : (x d : ℕ) → may_ask own_terms (of_children x d) ≡ true → listed at.known (of_children x d) ≡ None → IsMissing at (of_children x d)
  children-missing x d may none =
      let (inside, same, more) = own x (ltb 0 (length (parts_at at.version.model.space x d)) && is_grounded at.version x d) may in
      let parts = and_parts (ltb 0 (length (parts_at at.version.model.space x d))) (is_grounded at.version x d) more in
      let filled = ltb-true 0 (length (parts_at at.version.model.space x d)) parts.0 in
      let within : d < length (axes at.version.model.space (cube_of at.version.model.space at.cell)) = subst (λ (y : ℕ). d < length (axes at.version.model.space (cube_of at.version.model.space y))) same (axis x d filled) in
      record {
        leads = record {
          is_asked = (inside, filled, parts.1);
          leads = subst (λ (y : ℕ). Contains (asks_on at.version (of_value at.cell)) (of_children y d)) (sym same)
              (asks-has at.version (of_value at.cell) (of_children at.cell d)
              (behind (of_base at.cell) _ (of_children at.cell d) (Contains-append_left (map (of_children at.cell) (range_with_len 0 (length (axes at.version.model.space (cube_of at.version.model.space at.cell)))))
              (map of_value (range_with_len 0 (size_of at.version.model.space))) (of_children at.cell d) (map-contains (of_children at.cell) (length (axes at.version.model.space (cube_of at.version.model.space at.cell))) d within)))
              (omega arith));
        };
        unlisted = none;
      }

-- ---- answers from the list

pub answer-ok : (known : Known) (q : Ask) (a : Value) → answer_in known q ≡ Ok a → listed known q ≡ Some a
unfolding answer_in
answer-ok known q a is = by (listed known q) refl
  where
    by : (o : Option Value) → listed known q ≡ o → listed known q ≡ Some a
    by None none = let here : Err q ≡ Ok a = rw none at is in absurd (cc)
    by (Some b) some = let here : Ok b ≡ Ok a = rw some at is in let same : b ≡ a = cc in some ∙ ap Some same

pub answer-err : (known : Known) (q e : Ask) → answer_in known q ≡ Err e → (listed known q ≡ None) × (q ≡ e)
unfolding answer_in
answer-err known q e is = by (listed known q) refl
  where
    by : (o : Option Value) → listed known q ≡ o → (listed known q ≡ None) × (q ≡ e)
    by None none = let here : Err q ≡ Err e = rw none at is in let same : q ≡ e = cc in (none, same)
    by (Some b) some = let here : Ok b ≡ Err e = rw some at is in absurd (cc)

-- a question that is missing alone
pub missing-one : (at : ListedAnswers) (missing : Missing) (q : Ask) → IsMissing at q → missing.first ≡ q → missing.more.items ≡ [] → AreMissing at missing
missing-one at missing q is first more =
    record {
      first = subst (IsMissing at) (sym first) is;
      more = subst (All (LeadsTo at.version at.cell)) (sym more) (All-nil (LeadsTo at.version at.cell));
    }

pub missing-or : (at : ListedAnswers) (q : Ask) (r : Result Value Missing)
    → IfErr r (λ missing. (listed at.known q ≡ None) × (missing.first ≡ q) × (missing.more.items ≡ []))
    → (listed at.known q ≡ None → IsMissing at q) → IfErr r (λ missing. AreMissing at missing)
missing-or at q (Ok a) is missing = tt
missing-or at q (Err m) (none, first, more) missing = missing-one at m q (missing none) first more

-- what is added to a list, as far as there was room
pub all-added : (P : Ask → Type 0) (xs ys zs : List Ask) (b : Bool) → xs ≡ (if b then ys ++ zs else ys) → All P ys → All P zs → All P xs
all-added P xs ys zs true is own more = subst (All P) (sym is) (All-append P ys zs own more)
all-added P xs ys zs false is own more = subst (All P) (sym is) own
