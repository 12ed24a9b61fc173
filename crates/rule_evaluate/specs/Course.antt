-- The course of an evaluation: which questions it asks, and whether it takes what the statements after it give. Of an
-- IF the branch that is taken is evaluated alone, and a condition only as far as it is open.
use Rattle.std.specs.Prelude.{◌≡◌, ℕ, suc, Some, is_some, Bool, true, false, not}
use Rattle.std.specs.Prelude.{◌&&◌, ◌||◌, List, [], ◌∷◌, if◌then◌else◌}
use Rattle.std.specs.Option.{option_map_or}
use Rattle.cube_fixed.specs.declared.value.Value.{Value}
use Rattle.cube_fixed.specs.declared.value.Value.TheVariants.{Num}
use Rattle.cube_fixed.specs.Arithmetic.{zero_value}
use Rattle.rule_laws.specs.declared.reference.Reference.{Reference}
use Rattle.rule_laws.specs.declared.formula.Formula.{Formula}
use Rattle.rule_laws.specs.declared.formula.Formula.TheFolds.{fold-Formula, fold-Truth}
use Rattle.rule_laws.specs.declared.formula.Formula.TheOpen.{Formula-F, Truth-F}
use Rattle.rule_laws.specs.declared.formula.Truth.{Truth}
use Rattle.rule_laws.specs.Meaning.{Precedent, Named, Components}
use Rattle.rule_laws.specs.Tables.{number_of}
use Rattle.rule_laws.specs.Operation.{operation_of, function_of, comparison_of}
use Rattle.rule_laws.specs.RuleSystem.{RuleSystem, Rule, part_at}
use Rattle.rule_evaluate.specs.declared.ask.Ask.{Ask}
use Rattle.rule_evaluate.specs.declared.ask.Ask.TheVariants.{Value as of_value, Base as of_base}
use Rattle.rule_evaluate.specs.declared.ask.Ask.TheVariants.{Children as of_children}
use Rattle.rule_evaluate.specs.Readings.{Readings, statements_value}

-- of a formula: its value; whether a test passes each question that is asked for it; whether CONTINUE stands in it; and
-- whether the statements after it are taken: where CONTINUE stands in the branch that the conditions lead to, or in one
-- of these conditions
pub record Course : Type 0 where
  pub value : Value
  pub passes : (Ask → Bool) → Bool
  pub continues : Bool
  pub goes_on : Bool

-- of a condition: whether it holds, whether a test passes each question that is asked for it, and whether CONTINUE
-- stands in it
pub record Trial : Type 0 where
  pub holds : Bool
  pub passes : (Ask → Bool) → Bool
  pub continues : Bool

-- nothing is asked
abbrev pub unasked : Value → Course
unasked v = record { value = v; passes = λ may. true; continues = false; goes_on = false }

-- one question is asked
abbrev pub asked_once : Value → Ask → Course
asked_once v question = record { value = v; passes = λ may. may question; continues = false; goes_on = false }

-- CONTINUE, where the statements after it give `rest`
abbrev pub continued : Value → Course
continued rest = record { value = rest; passes = λ may. true; continues = true; goes_on = true }

-- what a formula takes at a cell: by each reference, by STET, and by ConsolidateChildren in each dimension; and the
-- cell's element in each dimension
pub record Sources : Type 0 where
  pub named : Reference → Course
  pub stet : Course
  pub children : ℕ → Course
  pub own : ℕ → ℕ

-- the course of a formula by those of its parts, where the statements after it give `rest`
abbrev pub course_step : Sources → Value → Formula-F Course Trial → Course
course_step s rest (Formula-F.Number k) = unasked (Num k)
course_step s rest Formula-F.Stet = s.stet
course_step s rest Formula-F.Continue = continued rest
course_step s rest (Formula-F.Children dim) = s.children dim
course_step s rest (Formula-F.Ref r) = s.named r
course_step s rest (Formula-F.Table dim table) = unasked (Num (number_of table (s.own dim)))
course_step s rest (Formula-F.Binary op a b) =
    record {
      value = operation_of op a.value b.value;
      passes = λ may. a.passes may && b.passes may;
      continues = a.continues || b.continues;
      goes_on = a.continues || b.continues;
    }
course_step s rest (Formula-F.Unary function a) =
    record {
      value = function_of function a.value;
      passes = a.passes;
      continues = a.continues;
      goes_on = a.continues;
    }
course_step s rest (Formula-F.If truth a b) =
    record {
      value = if truth.holds then a.value else b.value;
      passes = λ may. truth.passes may && (if truth.holds then a.passes may else b.passes may);
      continues = (truth.continues || a.continues) || b.continues;
      goes_on = truth.continues || (if truth.holds then a.goes_on else b.goes_on);
    }

abbrev pub trial_step : Truth-F Course Trial → Trial
trial_step (Truth-F.Compare rel a b) =
    record {
      holds = comparison_of rel a.value b.value;
      passes = λ may. a.passes may && b.passes may;
      continues = a.continues || b.continues;
    }
trial_step (Truth-F.And a b) =
    record {
      holds = a.holds && b.holds;
      passes = λ may. a.passes may && (if a.holds then b.passes may else true);
      continues = a.continues || b.continues;
    }
trial_step (Truth-F.Or a b) =
    record {
      holds = a.holds || b.holds;
      passes = λ may. a.passes may && (if a.holds then true else b.passes may);
      continues = a.continues || b.continues;
    }
trial_step (Truth-F.Not a) = record { holds = not a.holds; passes = a.passes; continues = a.continues }

abbrev pub formula_course : Sources → Value → Formula → Course
formula_course s rest = fold-Formula Course Trial (course_step s rest) trial_step

abbrev pub truth_trial : Sources → Value → Truth → Trial
truth_trial s rest = fold-Truth Course Trial (course_step s rest) trial_step

-- what a formula takes at a cell; a reference that names no cell asks nothing
unfoldable pub sources_of : RuleSystem → Readings → ℕ → Sources
sources_of w t c =
    record {
      named = λ r. option_map_or (λ x. asked_once (t.value x) (of_value x)) (w.target r c) (unasked zero_value);
      stet = asked_once (t.base c) (of_base c);
      children = λ dim.
          option_map_or (λ components. asked_once (t.children c dim) (of_children c dim)) (w.components c dim)
          (asked_once (t.base c) (of_base c));
      own = w.own c;
    }

-- the course of a formula of a statement, before these statements
abbrev pub course_before : RuleSystem → Readings → ℕ → List Rule → Formula → Course
course_before w t c rules = formula_course (sources_of w t c) (statements_value w t c rules)

-- a test passes what a formula of the cell reads: the cell that a reference names, and a sum over components
abbrev pub MayRead : RuleSystem → (Ask → Bool) → ℕ → Precedent → Type 0
MayRead w may c (Named r) = (x : ℕ) → w.target r c ≡ Some x → may (of_value x) ≡ true
MayRead w may c (Components dim) = is_some (w.components c dim) ≡ true → may (of_children c dim) ≡ true

-- whether a test passes each question that is asked for what statements give a cell: for the first that has a part for
-- it, and for those after it where they are taken; the base is asked for where none has a part
abbrev pub passes : RuleSystem → Readings → ℕ → (Ask → Bool) → List Rule → Bool
passes w t c may [] = may (of_base c)
passes w t c may (rule ∷ rules) =
    option_map_or (λ f. (course_before w t c rules f).passes may
    && (if (course_before w t c rules f).goes_on then passes w t c may rules else true)) (part_at w c rule)
    (passes w t c may rules)

-- how many statements are entered for it
abbrev pub entered : RuleSystem → Readings → ℕ → List Rule → ℕ
entered w t c [] = 0
entered w t c (rule ∷ rules) =
    option_map_or (λ f. suc (if (course_before w t c rules f).goes_on then entered w t c rules else 0))
    (part_at w c rule) (entered w t c rules)
