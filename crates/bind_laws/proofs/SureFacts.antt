-- A comparison as it is bound for leaf cells of an area holds there as the one that is written.
use Rattle.std.proofs.Common.{◌≡◌, refl, sym, ap, subst, ◌∙◌, arith, ℕ, ℤ, zero, suc, ◌+◌, ◌<◌, ◌≤◌, ◌==◌, inl, inr, Bool, true, false, not, ◌||◌, List, [], ◌∷◌, length, Option, Some, None, nat_lt, if◌then◌else◌}
use Rattle.std.specs.Prelude.{slice_get}
use Rattle.std.specs.Bool.{beq}
use Rattle.std.specs.List.{list_all, list_any, range_with_len}
use Rattle.std.specs.Option.{option_map, option_map_or, option_and_then}
use Rattle.std.proofs.lemmas.Bool.{and_parts, or_cases, eqb-true, ltb-true, cases_lt}
use Rattle.cube_fixed.specs.declared.value.Value.{Value}
use Rattle.cube_fixed.specs.declared.value.Value.TheVariants.{Num}
use Rattle.dim_core.specs.Outline.{Outline}
use Rattle.cube_space.specs.Layout.{Layout, axes}
use Rattle.cube_space.specs.Cells.{is_leaf}
use Rattle.rule_laws.specs.Meaning.{Others, value_step, truth_step, formula_value, truth_value}
use Rattle.rule_laws.specs.Operation.{comparison_of}
use Rattle.rule_laws.specs.Tables.{number_of}
use Rattle.rule_laws.specs.declared.reference.Reference.{Reference}
use Rattle.rule_laws.specs.declared.operation.Rel.{Rel}
use Rattle.rule_laws.specs.declared.formula.Formula.{Formula, out-Formula, roll-Formula}
use Rattle.rule_laws.specs.declared.formula.Formula.TheOpen.{Formula-F}
use Rattle.rule_laws.specs.declared.formula.Formula.TheViews.{roll-out-Formula}
use Rattle.rule_laws.specs.declared.formula.Formula.TheVariants as formulas
use Rattle.rule_laws.specs.declared.formula.Formula.TheVariants.{rolls-Number, rolls-Table}
use Rattle.rule_laws.specs.declared.formula.Truth.{Truth}
use Rattle.rule_laws.proofs.FormulaFolds.{of-number, of-table, of-compare}
use Rattle.rule_model.specs.Areas.{in_set}
use Rattle.lists.proofs.Found.{and_then_found}
use Rattle.rule_bind.specs.declared.sureness.Test.{Test}
use Rattle.rule_bind.specs.Sureness.{Sets, elements_in, is_leaf_of, first_leaf, holds, is_alike, are_alike, first_number, number_in, number_at, number_layer, side_layer, test_with, side, comparison}

chosen : (b : Bool) (x v : ℤ) → (if b then Some x else None) ≡ Some v → (b ≡ true) × (x ≡ v)
chosen true x v is = (refl, cc is)
chosen false x v is = absurd (cc is)

listed : (test : ℕ → Bool) (xs : List ℕ) (e : ℕ) → list_all test xs ≡ true → list_any (λ x. x == e) xs ≡ true → test e ≡ true
listed test [] e all has = absurd (cc has)
listed test (x ∷ xs) e all has =
    let parts = and_parts (test x) (list_all test xs) all in
    elim (or_cases (x == e) (list_any (λ x. x == e) xs) has) [
      | inl here ↦ subst (λ y. test y ≡ true) (eqb-true x e here) parts.0
      | inr later ↦ listed test xs e parts.1 later
    ]

counted : (test : ℕ → Bool) (from n e : ℕ) → list_all test (range_with_len from n) ≡ true → from ≤ e → e < from + n → test e ≡ true
counted test from zero e all low high = absurd (omega (arith, low, high))
counted test from (suc n) e all low high =
    let parts = and_parts (test from) (list_all test (range_with_len (from + 1) n)) all in
    elim (cases_lt from e) [
      | inl less ↦ counted test (from + 1) n e parts.1 (omega (arith, less)) (omega (arith, high))
      | inr most ↦ let same : from ≡ e = omega (arith, most, low) in subst (λ y. test y ≡ true) same parts.0
    ]

-- what holds of all elements of a set, holds of each leaf element that it has
at_leaf : (d : Outline) (set : Option (List ℕ)) (test : ℕ → Bool) (e : ℕ) → list_all test (elements_in d set) ≡ true → is_leaf_of d e ≡ true → in_set set e ≡ true → test e ≡ true
at_leaf d None test e all leaf inside =
    counted test 0 (length d.elements) e all (omega arith) (omega (arith, ltb-true e (length d.elements) (and_parts (nat_lt e (length d.elements)) (is_leaf d e) leaf).0))
at_leaf d (Some elements) test e all leaf inside = listed test elements e all inside

same_truth : (leaf a b : Bool) → leaf ≡ true → (not leaf || beq a b) ≡ true → a ≡ b
same_truth true true true leaf is = refl
same_truth true true false leaf is = absurd (cc is)
same_truth true false true leaf is = absurd (cc is)
same_truth true false false leaf is = refl
same_truth false a b leaf is = absurd (cc leaf)

number-alike : (d : Outline) (set : Option (List ℕ)) (test : Test) (table : List ℤ) (v : ℤ) (e : ℕ) → number_in d set test table ≡ Some v → is_leaf_of d e ≡ true → in_set set e ≡ true
    → holds test (number_of table e) ≡ holds test v
unfolding number_in
number-alike d set test table v e is leaf inside =
    let (first, _, rest) = and_then_found (first_number d set test table) (first_leaf d set) v is in
    let number = number_of table first in
    let (alike, same) = chosen (are_alike d set test table number) number v rest in
    let here : is_alike d test table (holds test number) e ≡ true = at_leaf d set (is_alike d test table (holds test number)) e alike leaf inside in
    same_truth (is_leaf_of d e) (holds test (number_of table e)) (holds test number) leaf here ∙ ap (holds test) same

-- the same by the place of the dimension
pub settled-alike : (space : Layout) (cube : ℕ) (sets : Sets) (test : Test) (place : ℕ) (table : List ℤ) (v : ℤ) (d : Outline) (set : Option (List ℕ)) (e : ℕ) → number_at space cube sets test place table ≡ Some v
    → slice_get (axes space cube) place ≡ Some d → slice_get sets place ≡ Some set → is_leaf_of d e ≡ true → in_set set e ≡ true → holds test (number_of table e) ≡ holds test v
unfolding number_at
settled-alike space cube sets test place table v d set e is own has leaf inside =
    let first : option_and_then (λ set. number_in d set test table) (slice_get sets place) ≡ Some v =
    subst (λ o. option_and_then (λ d. option_and_then (λ set. number_in d set test table) (slice_get sets place)) o ≡ Some v) own is in
    let second : number_in d set test table ≡ Some v = subst (λ o. option_and_then (λ set. number_in d set test table) o ≡ Some v) has first in
    number-alike d set test table v e second leaf inside

-- at each place of a cube these are leaf elements that an area has
abbrev pub AreLeavesOf : Layout → ℕ → Sets → (ℕ → ℕ) → Type 0
AreLeavesOf space cube sets own = (place : ℕ) (d : Outline) (set : Option (List ℕ)) → slice_get (axes space cube) place ≡ Some d → slice_get sets place ≡ Some set
    → (is_leaf_of d (own place) ≡ true) × (in_set set (own place) ≡ true)

module _ (space : Layout) (cube : ℕ) (sets : Sets) (named : Reference → Value) (others : Others) (leaves : AreLeavesOf space cube sets others.own) where
  abbrev value : Formula → Value
  value = formula_value named others

  number_is : (k : ℤ) → value (formulas.Number k) ≡ Num k
  number_is k = of-number Value Bool (value_step named others) truth_step k

  table_is : (place : ℕ) (table : List ℤ) → value (formulas.Table place table) ≡ Num (number_of table (others.own place))
  table_is place table = of-table Value Bool (value_step named others) truth_step place table

  alike : (test : Test) (place : ℕ) (table : List ℤ) (v : ℤ) → number_at space cube sets test place table ≡ Some v → holds test (number_of table (others.own place)) ≡ holds test v
  unfolding number_at
  alike test place table v is =
      let (d, own, more) = and_then_found (λ d. option_and_then (λ set. number_in d set test table) (slice_get sets place)) (slice_get (axes space cube) place) v is in
      let (set, has, rest) = and_then_found (λ set. number_in d set test table) (slice_get sets place) v more in
      let (leaf, inside) = leaves place d set own has in
      number-alike d set test table v (others.own place) rest leaf inside

  left_table : (rel : Rel) (k : ℤ) (place : ℕ) (table : List ℤ) (o : Option ℤ) → number_at space cube sets (record { rel = rel; number = k; is_left = true }) place table ≡ o
      → comparison_of rel (value (option_map_or formulas.Number o (formulas.Table place table))) (Num k) ≡ comparison_of rel (value (formulas.Table place table)) (Num k)
  left_table rel k place table None is = refl
  left_table rel k place table (Some v) is =
      ap (λ x. comparison_of rel x (Num k)) (number_is v) ∙ sym (alike (record { rel = rel; number = k; is_left = true }) place table v is) ∙ ap (λ x. comparison_of rel x (Num k)) (sym (table_is place table))

  right_table : (rel : Rel) (k : ℤ) (place : ℕ) (table : List ℤ) (o : Option ℤ) → number_at space cube sets (record { rel = rel; number = k; is_left = false }) place table ≡ o
      → comparison_of rel (Num k) (value (option_map_or formulas.Number o (formulas.Table place table))) ≡ comparison_of rel (Num k) (value (formulas.Table place table))
  right_table rel k place table None is = refl
  right_table rel k place table (Some v) is =
      ap (λ x. comparison_of rel (Num k) x) (number_is v) ∙ sym (alike (record { rel = rel; number = k; is_left = false }) place table v is) ∙ ap (λ x. comparison_of rel (Num k) x) (sym (table_is place table))

  -- a side by the layer of its formula
  abbrev side_by : Option Test → Formula → Formula-F Formula Truth → Formula
  side_by None f l = f
  side_by (Some test) f l = side_layer space cube sets test f l

  side_is : (test : Option Test) (f : Formula) → side space cube sets test f ≡ side_by test f (out-Formula f)
  unfolding side
  side_is None f = refl
  side_is (Some test) f = refl

  abbrev test_by : Rel → Bool → Formula-F Formula Truth → Option Test
  test_by rel is_left l = option_map (λ k. record { rel = rel; number = k; is_left = is_left }) (number_layer l)

  abbrev Same : Rel → Formula → Formula → Formula → Formula → Type 0
  Same rel left right a b = comparison_of rel (value left) (value right) ≡ comparison_of rel (value a) (value b)

  left_same : (rel : Rel) (k : ℤ) (a b : Formula) (l : Formula-F Formula Truth) → roll-Formula l ≡ a → value b ≡ Num k → Same rel (side_layer space cube sets (record { rel = rel; number = k; is_left = true }) a l) b a b
  left_same rel k a b (Formula-F.Table place table) is number =
      let same : formulas.Table place table ≡ a = sym (rolls-Table place table) ∙ is in
      let test : Test = record { rel = rel; number = k; is_left = true } in
      ap (λ x. comparison_of rel (value (option_map_or formulas.Number (number_at space cube sets test place table) (formulas.Table place table))) x) number
      ∙ left_table rel k place table (number_at space cube sets test place table) refl
      ∙ ap (λ x. comparison_of rel (value (formulas.Table place table)) x) (sym number)
      ∙ ap (λ f. comparison_of rel (value f) (value b)) same
  left_same rel k a b (Formula-F.Number n) is number = refl
  left_same rel k a b Formula-F.Stet is number = refl
  left_same rel k a b Formula-F.Continue is number = refl
  left_same rel k a b (Formula-F.Children dim) is number = refl
  left_same rel k a b (Formula-F.Ref r) is number = refl
  left_same rel k a b (Formula-F.Binary op x y) is number = refl
  left_same rel k a b (Formula-F.Unary function x) is number = refl
  left_same rel k a b (Formula-F.If truth x y) is number = refl

  right_same : (rel : Rel) (k : ℤ) (a b : Formula) (l : Formula-F Formula Truth) → roll-Formula l ≡ b → value a ≡ Num k → Same rel a (side_layer space cube sets (record { rel = rel; number = k; is_left = false }) b l) a b
  right_same rel k a b (Formula-F.Table place table) is number =
      let same : formulas.Table place table ≡ b = sym (rolls-Table place table) ∙ is in
      let test : Test = record { rel = rel; number = k; is_left = false } in
      ap (λ x. comparison_of rel x (value (option_map_or formulas.Number (number_at space cube sets test place table) (formulas.Table place table)))) number
      ∙ right_table rel k place table (number_at space cube sets test place table) refl
      ∙ ap (λ x. comparison_of rel x (value (formulas.Table place table))) (sym number)
      ∙ ap (λ f. comparison_of rel (value a) (value f)) same
  right_same rel k a b (Formula-F.Number n) is number = refl
  right_same rel k a b Formula-F.Stet is number = refl
  right_same rel k a b Formula-F.Continue is number = refl
  right_same rel k a b (Formula-F.Children dim) is number = refl
  right_same rel k a b (Formula-F.Ref r) is number = refl
  right_same rel k a b (Formula-F.Binary op x y) is number = refl
  right_same rel k a b (Formula-F.Unary function x) is number = refl
  right_same rel k a b (Formula-F.If truth x y) is number = refl

  -- a number stays
  number_stays : (test : Option Test) (f : Formula) (k : ℤ) → side_by test f (Formula-F.Number k) ≡ f
  number_stays None f k = refl
  number_stays (Some test) f k = refl

  is_number : (f : Formula) (k : ℤ) → roll-Formula (Formula-F.Number k) ≡ f → value f ≡ Num k
  is_number f k is = ap value (sym is ∙ rolls-Number k) ∙ number_is k

  -- the left side stays where the right one is no number
  right_alone : (rel : Rel) (a b : Formula) (l m : Formula-F Formula Truth) → roll-Formula l ≡ a → roll-Formula m ≡ b → Same rel a (side_by (test_by rel false l) b m) a b
  right_alone rel a b (Formula-F.Number k) m is same = right_same rel k a b m same (is_number a k is)
  right_alone rel a b Formula-F.Stet m is same = refl
  right_alone rel a b Formula-F.Continue m is same = refl
  right_alone rel a b (Formula-F.Children dim) m is same = refl
  right_alone rel a b (Formula-F.Ref r) m is same = refl
  right_alone rel a b (Formula-F.Table place table) m is same = refl
  right_alone rel a b (Formula-F.Binary op x y) m is same = refl
  right_alone rel a b (Formula-F.Unary function x) m is same = refl
  right_alone rel a b (Formula-F.If truth x y) m is same = refl

  both_sides : (rel : Rel) (a b : Formula) (l m : Formula-F Formula Truth) → roll-Formula l ≡ a → roll-Formula m ≡ b → Same rel (side_by (test_by rel true m) a l) (side_by (test_by rel false l) b m) a b
  both_sides rel a b l (Formula-F.Number k) is same =
      ap (λ f. comparison_of rel (value (side_by (test_by rel true (Formula-F.Number k)) a l)) (value f)) (number_stays (test_by rel false l) b k)
      ∙ left_same rel k a b l is (is_number b k same)
  both_sides rel a b l Formula-F.Stet is same = right_alone rel a b l Formula-F.Stet is same
  both_sides rel a b l Formula-F.Continue is same = right_alone rel a b l Formula-F.Continue is same
  both_sides rel a b l (Formula-F.Children dim) is same = right_alone rel a b l (Formula-F.Children dim) is same
  both_sides rel a b l (Formula-F.Ref r) is same = right_alone rel a b l (Formula-F.Ref r) is same
  both_sides rel a b l (Formula-F.Table place table) is same = right_alone rel a b l (Formula-F.Table place table) is same
  both_sides rel a b l (Formula-F.Binary op x y) is same = right_alone rel a b l (Formula-F.Binary op x y) is same
  both_sides rel a b l (Formula-F.Unary function x) is same = right_alone rel a b l (Formula-F.Unary function x) is same
  both_sides rel a b l (Formula-F.If truth x y) is same = right_alone rel a b l (Formula-F.If truth x y) is same

  -- a comparison as it is bound holds as the values say
  pub comparison_holds : (rel : Rel) (a b : Formula) → truth_value named others (comparison space cube sets rel a b) ≡ comparison_of rel (value a) (value b)
  unfolding comparison
  comparison_holds rel a b =
      let left = test_with rel true b in
      let right = test_with rel false a in
      of-compare Value Bool (value_step named others) truth_step rel (side space cube sets left a) (side space cube sets right b)
      ∙ ap (λ f. comparison_of rel (value f) (value (side space cube sets right b))) (side_is left a)
      ∙ ap (λ f. comparison_of rel (value (side_by left a (out-Formula a))) (value f)) (side_is right b)
      ∙ both_sides rel a b (out-Formula a) (out-Formula b) (roll-out-Formula a) (roll-out-Formula b)
