-- The course of a formula at a cell: its value is the formula's, and it takes what the statements after it give only
-- where CONTINUE stands in it.
use Rattle.std.proofs.Common.{◌≡◌, refl, ap, ◌∙◌, subst, ℕ, Bool, true, false, not, ◌||◌, Option, Some, None}
use Rattle.std.specs.Option.{option_map_or}
use Rattle.std.specs.Prelude.{List, ℤ, if◌then◌else◌, ⊤}
use Rattle.cube_fixed.specs.declared.value.Value.{Value}
use Rattle.cube_fixed.specs.Arithmetic.{zero_value}
use Rattle.rule_laws.specs.declared.reference.Reference.{Reference}
use Rattle.rule_laws.specs.declared.formula.Formula.{Formula}
use Rattle.rule_laws.specs.declared.formula.Formula.TheFolds.{fold-roll-Formula, ind-Formula, map-Formula}
use Rattle.rule_laws.specs.declared.formula.Formula.TheOpen.{Formula-F, Truth-F}
use Rattle.rule_laws.specs.declared.formula.Formula.TheVariants.{If, rolls-If}
use Rattle.rule_laws.specs.declared.formula.Formula.TheViews.{roll-Formula}
use Rattle.rule_laws.specs.declared.formula.Truth.{Truth}
use Rattle.cube_fixed.specs.declared.value.Value.TheVariants.{Num}
use Rattle.rule_laws.specs.Tables.{number_of}
use Rattle.rule_laws.specs.Operation.{function_of}
use Rattle.rule_laws.specs.Meaning.{value_step, truth_step}
use Rattle.rule_laws.specs.RuleSystem.{RuleSystem, named}
use Rattle.rule_laws.proofs.Folds.{Layers, TruthLayers, by_layers, by_layers_truth}
use Rattle.rule_model.specs.Input.{has_continue, continue_step, either_step}
use Rattle.rule_model.specs.Inside.Parts.{truth_has_continue}
use Rattle.rule_evaluate.specs.declared.ask.Ask.TheVariants.{Value as of_value, Base as of_base, Children as of_children}
use Rattle.rule_evaluate.specs.Readings.{Readings, others_by, children_by, formula_by}
use Rattle.rule_evaluate.specs.Course.{Course, Trial, Sources, unasked, asked_once, course_step, trial_step, formula_course, truth_trial, sources_of}
use Rattle.rule_evaluate.proofs.Parts.{if_is}
use Rattle.std.proofs.lemmas.Bool.{or_parts as either}

module _ (w : RuleSystem) (t : Readings) (c : ℕ) where
  abbrev s : Sources
  s = sources_of w t c

  named_facts : (r : Reference) → ((s.named r).continues ≡ false) × ((s.named r).value ≡ named w t.value c r)
  unfolding sources_of
  named_facts r = by (w.target r c)
    where
      by : (o : Option ℕ) → ((option_map_or (λ x. asked_once (t.value x) (of_value x)) o (unasked zero_value)).continues ≡ false)
          × ((option_map_or (λ x. asked_once (t.value x) (of_value x)) o (unasked zero_value)).value ≡ option_map_or t.value o zero_value)
      by None = (refl, refl)
      by (Some x) = (refl, refl)

  children_facts : (dim : ℕ) → ((s.children dim).continues ≡ false) × ((s.children dim).value ≡ children_by w t c dim)
  unfolding sources_of
  children_facts dim = by (w.components c dim)
    where
      by : (o : Option (List (ℕ × ℤ)))
          → ((option_map_or (λ components. asked_once (t.children c dim) (of_children c dim)) o (asked_once (t.base c) (of_base c))).continues ≡ false)
          × ((option_map_or (λ components. asked_once (t.children c dim) (of_children c dim)) o (asked_once (t.base c) (of_base c))).value
          ≡ option_map_or (λ components. t.children c dim) o (t.base c))
      by None = (refl, refl)
      by (Some x) = (refl, refl)

  stet_facts : ((s.stet).continues ≡ false) × ((s.stet).value ≡ t.base c)
  unfolding sources_of
  stet_facts = (refl, refl)

  table_facts : (dim : ℕ) (table : List ℤ) → ((unasked (Num (number_of table (s.own dim)))).continues ≡ false) × ((unasked (Num (number_of table (s.own dim)))).value ≡ Num (number_of table (w.own c dim)))
  unfolding sources_of
  table_facts dim table = (refl, refl)

  children_plain : (dim : ℕ) → (s.children dim).goes_on ≡ (s.children dim).continues
  unfolding sources_of
  children_plain dim = by (w.components c dim)
    where
      by : (o : Option (List (ℕ × ℤ)))
          → (option_map_or (λ components. asked_once (t.children c dim) (of_children c dim)) o (asked_once (t.base c) (of_base c))).goes_on
          ≡ (option_map_or (λ components. asked_once (t.children c dim) (of_children c dim)) o (asked_once (t.base c) (of_base c))).continues
      by None = refl
      by (Some x) = refl

  named_plain : (r : Reference) → (s.named r).goes_on ≡ (s.named r).continues
  unfolding sources_of
  named_plain r = by (w.target r c)
    where
      by : (o : Option ℕ) → (option_map_or (λ x. asked_once (t.value x) (of_value x)) o (unasked zero_value)).goes_on
          ≡ (option_map_or (λ x. asked_once (t.value x) (of_value x)) o (unasked zero_value)).continues
      by None = refl
      by (Some x) = refl

  module _ (rest : Value) where
    -- the value, and whether CONTINUE stands in it
    Is : Course → Value → Bool → Type 0
    Is x y z = (x.continues ≡ z) × (x.value ≡ y)

    IsTruth : Trial → Bool → Bool → Type 0
    IsTruth x y z = (x.continues ≡ z) × (x.holds ≡ y)

    layers : Layers (course_step s rest) trial_step (value_step (named w t.value c) (others_by w t c rest)) truth_step continue_step either_step Is IsTruth
    unfolding Is IsTruth
    layers (Formula-F.Number k) = (refl, refl)
    layers Formula-F.Stet = stet_facts
    layers Formula-F.Continue = (refl, refl)
    layers (Formula-F.Children dim) = children_facts dim
    layers (Formula-F.Ref r) = named_facts r
    layers (Formula-F.Table dim table) = table_facts dim table
    layers (Formula-F.Binary op a b) = (rw (a.holds.0, b.holds.0) refl, rw (a.holds.1, b.holds.1) refl)
    layers (Formula-F.Unary function a) = (a.holds.0, ap (function_of function) a.holds.1)
    layers (Formula-F.If x a b) = (rw (x.holds.0, a.holds.0, b.holds.0) refl, rw (x.holds.1, a.holds.1, b.holds.1) refl)

    truths : TruthLayers (course_step s rest) trial_step (value_step (named w t.value c) (others_by w t c rest)) truth_step continue_step either_step Is IsTruth
    unfolding Is IsTruth
    truths (Truth-F.Compare rel a b) = (rw (a.holds.0, b.holds.0) refl, rw (a.holds.1, b.holds.1) refl)
    truths (Truth-F.And a b) = (rw (a.holds.0, b.holds.0) refl, rw (a.holds.1, b.holds.1) refl)
    truths (Truth-F.Or a b) = (rw (a.holds.0, b.holds.0) refl, rw (a.holds.1, b.holds.1) refl)
    truths (Truth-F.Not a) = (a.holds.0, ap not a.holds.1)

    pub course_is : (f : Formula) → ((formula_course s rest f).continues ≡ has_continue f) × ((formula_course s rest f).value ≡ formula_by w t c rest f)
    unfolding Is IsTruth
    course_is f = by_layers (course_step s rest) trial_step (value_step (named w t.value c) (others_by w t c rest)) truth_step continue_step either_step Is IsTruth layers truths f

    pub trial_is : (x : Truth) → (truth_trial s rest x).continues ≡ truth_has_continue x
    unfolding Is IsTruth
    trial_is x = (by_layers_truth (course_step s rest) trial_step (value_step (named w t.value c) (others_by w t c rest)) truth_step continue_step either_step Is IsTruth layers truths x).0

    -- that is no IF: the statements after it are taken where CONTINUE stands in it
    IsPlain : Formula → Type 0
    IsPlain f = ((x : Truth) (a b : Formula) → f ≡ If x a b → ⊥) → (formula_course s rest f).goes_on ≡ (formula_course s rest f).continues

    Any : Truth → Type 0
    Any x = ⊤

    plain_layer : (l : Formula-F ((f : Formula) × IsPlain f) ((x : Truth) × Any x)) → IsPlain (roll-Formula (map-Formula ((f : Formula) × IsPlain f) ((x : Truth) × Any x) Formula Truth (λ e. e.0) (λ e. e.0) l))
    unfolding IsPlain sources_of
    plain_layer (Formula-F.Number k) differs = rw (fold-roll-Formula Course Trial (course_step s rest) trial_step (Formula-F.Number k)) refl
    plain_layer Formula-F.Stet differs = rw (fold-roll-Formula Course Trial (course_step s rest) trial_step Formula-F.Stet) refl
    plain_layer Formula-F.Continue differs = rw (fold-roll-Formula Course Trial (course_step s rest) trial_step Formula-F.Continue) refl
    plain_layer (Formula-F.Children dim) differs = rw (fold-roll-Formula Course Trial (course_step s rest) trial_step (Formula-F.Children dim)) (children_plain dim)
    plain_layer (Formula-F.Ref r) differs = rw (fold-roll-Formula Course Trial (course_step s rest) trial_step (Formula-F.Ref r)) (named_plain r)
    plain_layer (Formula-F.Table dim table) differs = rw (fold-roll-Formula Course Trial (course_step s rest) trial_step (Formula-F.Table dim table)) refl
    plain_layer (Formula-F.Binary op f g) differs = rw (fold-roll-Formula Course Trial (course_step s rest) trial_step (Formula-F.Binary op f.0 g.0)) refl
    plain_layer (Formula-F.Unary function f) differs = rw (fold-roll-Formula Course Trial (course_step s rest) trial_step (Formula-F.Unary function f.0)) refl
    plain_layer (Formula-F.If x f g) differs = absurd (differs x.0 f.0 g.0 (rolls-If x.0 f.0 g.0))

    pub plain : (f : Formula) → ((x : Truth) (a b : Formula) → f ≡ If x a b → ⊥) → (formula_course s rest f).goes_on ≡ (formula_course s rest f).continues
    unfolding IsPlain Any
    plain f = ind-Formula IsPlain Any (λ x l is. subst (λ z. IsPlain (roll-Formula z)) is (plain_layer l)) (λ x l is. tt) f

    -- an IF whose condition has CONTINUE
    pub open_if : (f : Formula) (x : Truth) (a b : Formula) → f ≡ If x a b → truth_has_continue x ≡ true → (formula_course s rest f).goes_on ≡ (formula_course s rest f).continues
    open_if f x a b is told =
        let e = ap (formula_course s rest) is ∙ if_is s rest x a b in
        let o : (truth_trial s rest x).continues ≡ true = trial_is x ∙ told in
        rw (e, o) refl

    -- another IF
    pub if_goes_on : (f : Formula) (x : Truth) (a b : Formula) → f ≡ If x a b → truth_has_continue x ≡ false
        → (formula_course s rest f).goes_on ≡ (if (truth_trial s rest x).holds then (formula_course s rest a).goes_on else (formula_course s rest b).goes_on)
    if_goes_on f x a b is closed =
        let e = ap (formula_course s rest) is ∙ if_is s rest x a b in
        let o : (truth_trial s rest x).continues ≡ false = trial_is x ∙ closed in
        rw (e, o) refl

  -- what the statements after it give makes no difference where CONTINUE stands nowhere
  module _ (one two : Value) where
    Same : Course → Course → Course → Type 0
    Same x y z = x.continues ≡ false → x ≡ y

    SameTruth : Trial → Trial → Trial → Type 0
    SameTruth x y z = x.continues ≡ false → x ≡ y

    same_layers : Layers (course_step s one) trial_step (course_step s two) trial_step (course_step s two) trial_step Same SameTruth
    unfolding Same SameTruth
    same_layers (Formula-F.Number k) e = refl
    same_layers Formula-F.Stet e = refl
    same_layers Formula-F.Continue e = cc
    same_layers (Formula-F.Children dim) e = refl
    same_layers (Formula-F.Ref r) e = refl
    same_layers (Formula-F.Table dim table) e = refl
    same_layers (Formula-F.Binary op a b) e =
        let (ea, eb) = either a.x.continues b.x.continues e in
        rw (a.holds ea, b.holds eb) refl
    same_layers (Formula-F.Unary function a) e = rw (a.holds e) refl
    same_layers (Formula-F.If x a b) e =
        let (front, eb) = either (x.x.continues || a.x.continues) b.x.continues e in
        let (ex, ea) = either x.x.continues a.x.continues front in
        rw (x.holds ex, a.holds ea, b.holds eb) refl

    same_truths : TruthLayers (course_step s one) trial_step (course_step s two) trial_step (course_step s two) trial_step Same SameTruth
    unfolding Same SameTruth
    same_truths (Truth-F.Compare rel a b) e = let (ea, eb) = either a.x.continues b.x.continues e in rw (a.holds ea, b.holds eb) refl
    same_truths (Truth-F.And a b) e = let (ea, eb) = either a.x.continues b.x.continues e in rw (a.holds ea, b.holds eb) refl
    same_truths (Truth-F.Or a b) e = let (ea, eb) = either a.x.continues b.x.continues e in rw (a.holds ea, b.holds eb) refl
    same_truths (Truth-F.Not a) e = rw (a.holds e) refl

    pub same_course : (f : Formula) → has_continue f ≡ false → formula_course s one f ≡ formula_course s two f
    unfolding Same SameTruth
    same_course f e = by_layers (course_step s one) trial_step (course_step s two) trial_step (course_step s two) trial_step Same SameTruth same_layers same_truths f ((course_is one f).0 ∙ e)

    pub same_trial : (x : Truth) → truth_has_continue x ≡ false → truth_trial s one x ≡ truth_trial s two x
    unfolding Same SameTruth
    same_trial x e = by_layers_truth (course_step s one) trial_step (course_step s two) trial_step (course_step s two) trial_step Same SameTruth same_layers same_truths x (trial_is one x ∙ e)
