-- What is asked for a formula is what it reads.
use Rattle.std.proofs.Common.{◌≡◌, refl, ℕ, Bool, true, false, List, [], ◌∷◌, ◌++◌, Option, None, Some}
use Rattle.std.specs.Prelude.{ℤ, if◌then◌else◌, is_some}
use Rattle.std.specs.Option.{option_map_or}
use Rattle.std.specs.List.{Contains}
use Rattle.std.proofs.lemmas.List.Elements.{Contains-push, Contains-append_left, Contains-append_right}
use Rattle.cube_fixed.specs.declared.value.Value.{Value}
use Rattle.cube_fixed.specs.Arithmetic.{zero_value}
use Rattle.rule_laws.specs.declared.formula.Formula.{Formula}
use Rattle.rule_laws.specs.declared.formula.Formula.TheOpen.{Formula-F, Truth-F}
use Rattle.rule_laws.specs.declared.reference.Reference.{Reference}
use Rattle.rule_laws.specs.Meaning.{Precedent, Named, Components, precedents, precedents_step, truth_precedents_step}
use Rattle.rule_laws.specs.RuleSystem.{RuleSystem, Rule, part_at}
use Rattle.rule_laws.proofs.Folds.{Layers, TruthLayers, by_layers}
use Rattle.rule_laws.proofs.FormulaFacts.{each_left, each_right}
use Rattle.rule_evaluate.specs.declared.ask.Ask.{Ask}
use Rattle.rule_evaluate.specs.declared.ask.Ask.TheVariants.{Value as of_value, Base as of_base, Children as of_children}
use Rattle.rule_evaluate.specs.Readings.{Readings, statements_value}
use Rattle.rule_evaluate.specs.Course.{Course, Trial, Sources, unasked, asked_once, course_step, trial_step, formula_course, sources_of, course_before, MayRead, passes}
use Rattle.std.proofs.lemmas.Bool.{and_from as all}

either_way : (h x y : Bool) → x ≡ true → y ≡ true → (if h then x else y) ≡ true
either_way true x y ex ey = ex
either_way false x y ex ey = ey

module _ (w : RuleSystem) (t : Readings) (c : ℕ) (may : Ask → Bool) (own : may (of_base c) ≡ true) where
  abbrev s : Sources
  s = sources_of w t c

  abbrev Read : List Precedent → Type 0
  Read ps = (p : Precedent) → Contains ps p → MayRead w may c p

  named-passes : (r : Reference) → MayRead w may c (Named r) → (s.named r).passes may ≡ true
  unfolding sources_of
  named-passes r read = by (w.target r c) refl
    where
      by : (o : Option ℕ) → w.target r c ≡ o → (option_map_or (λ x. asked_once (t.value x) (of_value x)) (w.target r c) (unasked zero_value)).passes may ≡ true
      by None is = rw is refl
      by (Some x) is = rw is (read x is)

  children-passes : (dim : ℕ) → MayRead w may c (Components dim) → (s.children dim).passes may ≡ true
  unfolding sources_of
  children-passes dim read = by (w.components c dim) refl
    where
      by : (o : Option (List (ℕ × ℤ))) → w.components c dim ≡ o
          → (option_map_or (λ components. asked_once (t.children c dim) (of_children c dim)) (w.components c dim) (asked_once (t.base c) (of_base c))).passes may ≡ true
      by None is = rw is own
      by (Some pairs) is = let there : is_some (w.components c dim) ≡ true = rw is refl in rw is (read there)

  stet-passes : s.stet.passes may ≡ true
  unfolding sources_of
  stet-passes = own

  module _ (rest : Value) where
    Passes : Course → List Precedent → Course → Type 0
    Passes x ps z = Read ps → x.passes may ≡ true

    TruthPasses : Trial → List Precedent → Trial → Type 0
    TruthPasses x ps z = Read ps → x.passes may ≡ true

    layers : Layers (course_step s rest) trial_step precedents_step truth_precedents_step (course_step s rest) trial_step Passes TruthPasses
    unfolding Passes TruthPasses
    layers (Formula-F.Number k) read = refl
    layers Formula-F.Stet read = stet-passes
    layers Formula-F.Continue read = refl
    layers (Formula-F.Children dim) read = children-passes dim (read (Components dim) (Contains-push [] (Components dim)))
    layers (Formula-F.Ref r) read = named-passes r (read (Named r) (Contains-push [] (Named r)))
    layers (Formula-F.Table dim table) read = refl
    layers (Formula-F.Binary op a b) read =
        all (a.x.passes may) (b.x.passes may) (a.holds (each_left (MayRead w may c) a.y b.y read)) (b.holds (each_right (MayRead w may c) a.y b.y read))
    layers (Formula-F.Unary function a) read = a.holds read
    layers (Formula-F.If x a b) read =
        let front = each_left (MayRead w may c) (x.y ++ a.y) b.y read in
        all (x.x.passes may) (if x.x.holds then a.x.passes may else b.x.passes may) (x.holds (each_left (MayRead w may c) x.y a.y front))
        (either_way x.x.holds (a.x.passes may) (b.x.passes may) (a.holds (each_right (MayRead w may c) x.y a.y front)) (b.holds (each_right (MayRead w may c) (x.y ++ a.y) b.y read)))

    truths : TruthLayers (course_step s rest) trial_step precedents_step truth_precedents_step (course_step s rest) trial_step Passes TruthPasses
    unfolding Passes TruthPasses
    truths (Truth-F.Compare rel a b) read =
        all (a.x.passes may) (b.x.passes may) (a.holds (each_left (MayRead w may c) a.y b.y read)) (b.holds (each_right (MayRead w may c) a.y b.y read))
    truths (Truth-F.And a b) read =
        all (a.x.passes may) (if a.x.holds then b.x.passes may else true) (a.holds (each_left (MayRead w may c) a.y b.y read))
        (either_way a.x.holds (b.x.passes may) true (b.holds (each_right (MayRead w may c) a.y b.y read)) refl)
    truths (Truth-F.Or a b) read =
        all (a.x.passes may) (if a.x.holds then true else b.x.passes may) (a.holds (each_left (MayRead w may c) a.y b.y read))
        (either_way a.x.holds true (b.x.passes may) refl (b.holds (each_right (MayRead w may c) a.y b.y read)))
    truths (Truth-F.Not a) read = a.holds read

    formula-passes : (f : Formula) → Read (precedents f) → (formula_course s rest f).passes may ≡ true
    unfolding Passes TruthPasses
    formula-passes f = by_layers (course_step s rest) trial_step precedents_step truth_precedents_step (course_step s rest) trial_step Passes TruthPasses layers truths f

  abbrev ReadAll : List Rule → Type 0
  ReadAll rules = (rule : Rule) (f : Formula) → Contains rules rule → part_at w c rule ≡ Some f → Read (precedents f)

  pub all-pass : (rules : List Rule) → ReadAll rules → passes w t c may rules ≡ true
  all-pass [] read = own
  all-pass (rule ∷ rules) read = by (part_at w c rule) refl (all-pass rules (λ r f has. read r f (Contains-append_right (rule ∷ []) rules r has)))
    where
      by : (o : Option Formula) → part_at w c rule ≡ o → passes w t c may rules ≡ true → passes w t c may (rule ∷ rules) ≡ true
      by None is rest = rw is rest
      by (Some f) is rest =
          let own = formula-passes (statements_value w t c rules) f (read rule f (Contains-append_left (rule ∷ []) rules rule (Contains-push [] rule)) is) in
          rw is (all ((course_before w t c rules f).passes may) (if (course_before w t c rules f).goes_on then passes w t c may rules else true) own
          (either_way (course_before w t c rules f).goes_on (passes w t c may rules) true rest refl))
