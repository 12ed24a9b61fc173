-- The courses of a formula's parts: what is asked for a part is asked for the formula, and its value is theirs.
use Rattle.std.proofs.Common.{◌≡◌, sym, ap, ◌∙◌, subst, Bool, true, false, ◌&&◌, ◌||◌, IfOk, Result, Ok}
use Rattle.std.specs.Bool.{if◌then◌else◌}
use Rattle.cube_fixed.specs.declared.value.Value.{Value}
use Rattle.rule_laws.specs.declared.formula.Formula.{Formula}
use Rattle.rule_laws.specs.declared.formula.Formula.TheOpen.{Formula-F, Truth-F}
use Rattle.rule_laws.specs.declared.formula.Formula.TheVariants.{Binary, Unary, If}
use Rattle.rule_laws.specs.declared.formula.Truth.TheVariants.{Compare, And, Or, Not}
use Rattle.rule_laws.specs.declared.formula.Truth.{Truth}
use Rattle.rule_laws.specs.declared.operation.Op.{Op}
use Rattle.rule_laws.specs.declared.operation.Fun.{Fun}
use Rattle.rule_laws.specs.declared.operation.Rel.{Rel}
use Rattle.rule_laws.specs.Operation.{operation_of, comparison_of}
use Rattle.rule_laws.proofs.SystemFacts.{both}
use Rattle.rule_laws.proofs.FormulaFolds.{of-binary, of-unary, of-if, of-compare, of-and, of-or, of-not}
use Rattle.rule_evaluate.specs.declared.ask.Ask.{Ask}
use Rattle.rule_evaluate.specs.Course.{Course, Trial, Sources, course_step, trial_step, formula_course, truth_trial}

module _ (s : Sources) (rest : Value) where
  abbrev C : Formula → Course
  C = formula_course s rest

  abbrev H : Truth → Trial
  H = truth_trial s rest

  abbrev step : Formula-F Course Trial → Course
  step = course_step s rest

  binary_is : (op : Op) (a b : Formula) → C (Binary op a b) ≡ step (Formula-F.Binary op (C a) (C b))
  binary_is op a b = of-binary Course Trial step trial_step op a b

  unary_is : (function : Fun) (a : Formula) → C (Unary function a) ≡ step (Formula-F.Unary function (C a))
  unary_is function a = of-unary Course Trial step trial_step function a

  pub if_is : (t : Truth) (a b : Formula) → C (If t a b) ≡ step (Formula-F.If (H t) (C a) (C b))
  if_is t a b = of-if Course Trial step trial_step t a b

  compare_is : (rel : Rel) (a b : Formula) → H (Compare rel a b) ≡ trial_step (Truth-F.Compare rel (C a) (C b))
  compare_is rel a b = of-compare Course Trial step trial_step rel a b

  and_is : (a b : Truth) → H (And a b) ≡ trial_step (Truth-F.And (H a) (H b))
  and_is a b = of-and Course Trial step trial_step a b

  or_is : (a b : Truth) → H (Or a b) ≡ trial_step (Truth-F.Or (H a) (H b))
  or_is a b = of-or Course Trial step trial_step a b

  not_is : (a : Truth) → H (Not a) ≡ trial_step (Truth-F.Not (H a))
  not_is a = of-not Course Trial step trial_step a

  module _ (may : Ask → Bool) where
    abbrev Passes : Formula → Type 0
    Passes f = (C f).passes may ≡ true

    abbrev TruthPasses : Truth → Type 0
    TruthPasses t = (H t).passes may ≡ true

    pub binary_passes : (f : Formula) (op : Op) (a b : Formula) → f ≡ Binary op a b → Passes f → Passes a × Passes b
    binary_passes f op a b is p = both ((C a).passes may) ((C b).passes may) (subst (λ c. c.passes may ≡ true) (ap C is ∙ binary_is op a b) p)

    pub unary_passes : (f : Formula) (function : Fun) (a : Formula) → f ≡ Unary function a → Passes f → Passes a
    unary_passes f function a is p = subst (λ c. c.passes may ≡ true) (ap C is ∙ unary_is function a) p

    pub compare_passes : (t : Truth) (rel : Rel) (a b : Formula) → t ≡ Compare rel a b → TruthPasses t → Passes a × Passes b
    compare_passes t rel a b is p = both ((C a).passes may) ((C b).passes may) (subst (λ c. c.passes may ≡ true) (ap H is ∙ compare_is rel a b) p)

    pub not_passes : (t a : Truth) → t ≡ Not a → TruthPasses t → TruthPasses a
    not_passes t a is p = subst (λ c. c.passes may ≡ true) (ap H is ∙ not_is a) p

    chosen : (b x y : Bool) → (if b then x else y) ≡ true → (b ≡ true → x ≡ true) × (b ≡ false → y ≡ true)
    chosen true x y e = (λ on. e, λ off. cc)
    chosen false x y e = (λ on. cc, λ off. e)

    pub and_passes : (t a b : Truth) → t ≡ And a b → TruthPasses t → TruthPasses a × ((H a).holds ≡ true → TruthPasses b)
    and_passes t a b is p =
        let (first, next) = both ((H a).passes may) (if (H a).holds then (H b).passes may else true) (subst (λ c. c.passes may ≡ true) (ap H is ∙ and_is a b) p) in
        (first, (chosen (H a).holds ((H b).passes may) true next).0)

    pub or_passes : (t a b : Truth) → t ≡ Or a b → TruthPasses t → TruthPasses a × ((H a).holds ≡ false → TruthPasses b)
    or_passes t a b is p =
        let (first, next) = both ((H a).passes may) (if (H a).holds then true else (H b).passes may) (subst (λ c. c.passes may ≡ true) (ap H is ∙ or_is a b) p) in
        (first, (chosen (H a).holds true ((H b).passes may) next).1)

    pub if_passes : (f : Formula) (t : Truth) (a b : Formula) → f ≡ If t a b → Passes f
        → TruthPasses t × (((H t).holds ≡ true → Passes a) × ((H t).holds ≡ false → Passes b))
    if_passes f t a b is p =
        let (first, next) = both ((H t).passes may) (if (H t).holds then (C a).passes may else (C b).passes may) (subst (λ c. c.passes may ≡ true) (ap C is ∙ if_is t a b) p) in
        (first, chosen (H t).holds ((C a).passes may) ((C b).passes may) next)

  pub binary_value : (f : Formula) (op : Op) (a b : Formula) (v u : Value) → f ≡ Binary op a b → v ≡ (C a).value → u ≡ (C b).value → operation_of op v u ≡ (C f).value
  binary_value f op a b v u is left right = rw (left, right) (sym (ap (λ c. c.value) (ap C is ∙ binary_is op a b)))

  pub compare_holds : (t : Truth) (rel : Rel) (a b : Formula) (v u : Value) → t ≡ Compare rel a b → v ≡ (C a).value → u ≡ (C b).value → comparison_of rel v u ≡ (H t).holds
  compare_holds t rel a b v u is left right = rw (left, right) (sym (ap (λ c. c.holds) (ap H is ∙ compare_is rel a b)))

  pub and_true : (t a b : Truth) → t ≡ And a b → (H a).holds ≡ true → (H b).holds ≡ (H t).holds
  and_true t a b is on = sym (ap (λ c. c.holds) (ap H is ∙ and_is a b) ∙ ap (λ x. x && (H b).holds) on)

  pub or_false : (t a b : Truth) → t ≡ Or a b → (H a).holds ≡ false → (H b).holds ≡ (H t).holds
  or_false t a b is off = sym (ap (λ c. c.holds) (ap H is ∙ or_is a b) ∙ ap (λ x. x || (H b).holds) off)

  pub if_true : (f : Formula) (t : Truth) (a b : Formula) → f ≡ If t a b → (H t).holds ≡ true → (C a).value ≡ (C f).value
  if_true f t a b is on = sym (ap (λ c. c.value) (ap C is ∙ if_is t a b) ∙ ap (λ x. if x then (C a).value else (C b).value) on)

  pub if_false : (f : Formula) (t : Truth) (a b : Formula) → f ≡ If t a b → (H t).holds ≡ false → (C b).value ≡ (C f).value
  if_false f t a b is off = sym (ap (λ c. c.value) (ap C is ∙ if_is t a b) ∙ ap (λ x. if x then (C a).value else (C b).value) off)

-- what comes out of a call comes out of the whole, where they agree
pub ok_by : {V F : Type 0} (result : Result V F) (x y : V) → x ≡ y → IfOk result (λ v. v ≡ x) → IfOk result (λ v. v ≡ y)
ok_by result x y same is = subst (λ z. IfOk result (λ v. v ≡ z)) same is

pub ok_is : {V F : Type 0} (result : Result V F) (a x : V) → result ≡ Ok a → IfOk result (λ v. v ≡ x) → a ≡ x
ok_is result a x is value = subst (λ r. IfOk r (λ v. v ≡ x)) is value
