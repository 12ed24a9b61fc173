-- Where the walk along the branches of a formula leads: to a part that gives the formula's value.
use Rattle.std.proofs.Common.{◌≡◌, sym, ◌∙◌, ap, ℕ, ◌+◌, subst, Bool, true, false, Option, None, Some, Result, Ok, Err, IfOk}
use Rattle.std.specs.Prelude.{if◌then◌else◌}
use Rattle.cube_fixed.specs.declared.value.Value.{Value}
use Rattle.rule_laws.specs.declared.formula.Formula.{Formula}
use Rattle.rule_laws.specs.declared.formula.Formula.TheVariants.{If}
use Rattle.rule_laws.specs.declared.formula.Truth.{Truth}
use Rattle.rule_model.specs.Input.{has_continue}
use Rattle.rule_model.specs.Inside.Parts.{truth_has_continue}
use Rattle.rule_model.specs.System.{system_of}
use Rattle.rule_evaluate.specs.declared.ask.Ask.{Ask}
use Rattle.rule_evaluate.specs.Readings.{Readings}
use Rattle.rule_evaluate.specs.Course.{Course}
use Rattle.rule_evaluate.specs.Inside.Scene.{Scene, sources_at, course_at, trial_at, value_from, entered_from, entered_on, entered_after, IsReady, IsEnd}
use Rattle.rule_evaluate.proofs.CourseFacts.{course_is, plain, open_if, if_goes_on, same_course, same_trial}
use Rattle.rule_evaluate.proofs.Parts.{if_passes, if_true, if_false}

pub entered_none : (x : Course) (n : ℕ) → x.goes_on ≡ false → entered_on x n ≡ 0
entered_none x n off = ap (λ b. if b then n else 0) off

pub ok_any : {V F : Type 0} (result : Result V F) (P : Type 0) → P → IfOk result (λ x. P)
ok_any (Ok v) P p = p
ok_any (Err f) P p = tt

module _ (s : Scene) (t : Readings) where
  pub plain_same : (one two : Value) (f : Formula) → has_continue f ≡ false → course_at s t one f ≡ course_at s t two f
  plain_same one two f e = same_course (system_of s.model) t s.cell one two f e

  pub trial_same : (one two : Value) (x : Truth) → truth_has_continue x ≡ false → trial_at s t one x ≡ trial_at s t two x
  trial_same one two x e = same_trial (system_of s.model) t s.cell one two x e

  pub whole_if : (rest : Value) (f : Formula) (x : Truth) (a b : Formula) → f ≡ If x a b → truth_has_continue x ≡ true → (course_at s t rest f).goes_on ≡ has_continue f
  whole_if rest f x a b is on = open_if (system_of s.model) t s.cell rest f x a b is on ∙ (course_is (system_of s.model) t s.cell rest f).0

  pub whole_plain : (rest : Value) (f : Formula) → ((x : Truth) (a b : Formula) → f ≡ If x a b → ⊥) → (course_at s t rest f).goes_on ≡ has_continue f
  whole_plain rest f differs = plain (system_of s.model) t s.cell rest f differs ∙ (course_is (system_of s.model) t s.cell rest f).0

  goes : (rest : Value) (f : Formula) (x : Truth) (a b : Formula) → f ≡ If x a b → truth_has_continue x ≡ false
      → (course_at s t rest f).goes_on ≡ (if (trial_at s t rest x).holds then (course_at s t rest a).goes_on else (course_at s t rest b).goes_on)
  goes rest f x a b is off = if_goes_on (system_of s.model) t s.cell rest f x a b is off

  -- the branch that is taken stands for the formula: their courses agree, and what is asked for it is asked for the formula
  pub record Stands (rest : Value) (f a : Formula) : Type 0 where
    pub value : (course_at s t rest a).value ≡ (course_at s t rest f).value
    pub goes_on : (course_at s t rest a).goes_on ≡ (course_at s t rest f).goes_on
    pub passes : (may : Ask → Bool) → (course_at s t rest f).passes may ≡ true → (course_at s t rest a).passes may ≡ true

  module _ (one rest : Value) (f : Formula) (x : Truth) (a b : Formula) (is : f ≡ If x a b) (off : truth_has_continue x ≡ false) where
    told : (h : Bool) → (trial_at s t one x).holds ≡ h → (trial_at s t rest x).holds ≡ h
    told h e = ap (λ y. y.holds) (trial_same rest one x off) ∙ e

    on_by : (h : Bool) → (trial_at s t one x).holds ≡ h → (if h then (course_at s t rest a).goes_on else (course_at s t rest b).goes_on) ≡ (course_at s t rest f).goes_on
    on_by h e = sym (goes rest f x a b is off ∙ ap (λ h. if h then (course_at s t rest a).goes_on else (course_at s t rest b).goes_on) (told h e))

    pub then_stands : (trial_at s t one x).holds ≡ true → Stands rest f a
    then_stands e = record {
      value = if_true (sources_at s t) rest f x a b is (told true e);
      goes_on = on_by true e;
      passes = λ may p. (if_passes (sources_at s t) rest may f x a b is p).1.0 (told true e);
    }

    pub else_stands : (trial_at s t one x).holds ≡ false → Stands rest f b
    else_stands e = record {
      value = if_false (sources_at s t) rest f x a b is (told false e);
      goes_on = on_by false e;
      passes = λ may p. (if_passes (sources_at s t) rest may f x a b is p).1.1 (told false e);
    }

    pub test_passes : (may : Ask → Bool) → (course_at s t rest f).passes may ≡ true → (trial_at s t one x).passes may ≡ true
    test_passes may p = subst (λ y. y.passes may ≡ true) (trial_same rest one x off) (if_passes (sources_at s t) rest may f x a b is p).0

  module _ (next : ℕ) (f a : Formula) (stands : Stands (value_from s t next) f a) where
    pub ready_by : (may : Ask → Bool) → IsReady s t may next f → IsReady s t may next a
    ready_by may ready = record { passes = stands.passes may ready.passes; rest = λ on. ready.rest (sym stands.goes_on ∙ on) }

    pub end_by : {F : Type 0} (old new : ℕ) (result : Result (Option Value) F) → IfOk result (IsEnd s t next a old new) → IfOk result (IsEnd s t next f old new)
    end_by old new (Ok (Some v)) e = (e.0 ∙ stands.value, e.1 ∙ ap (λ b. old + (if b then entered_from s t next else 0)) stands.goes_on)
    end_by old new (Ok None) e = (e.0 ∙ stands.value, sym stands.goes_on ∙ e.1, e.2)
    end_by old new (Err f) e = e

    pub entered_same : entered_after s t next a ≡ entered_after s t next f
    entered_same = ap (λ b. if b then entered_from s t next else 0) stands.goes_on
