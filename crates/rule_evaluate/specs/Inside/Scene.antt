-- The cell that is evaluated, and what its statements take there.
use Rattle.std.specs.Prelude.{if◌then◌else◌, ◌≡◌, ◌+◌, ℕ, Bool, true, List, drop, Option, Some, None}
use Rattle.std.specs.Borrow.{Bor}
use Rattle.cube_fixed.specs.declared.value.Value.{Value}
use Rattle.cube_space.specs.Cells.{IsCell, is_place, cube_of, elements_of, is_leaf_cell}
use Rattle.rule_laws.specs.declared.formula.Formula.{Formula}
use Rattle.rule_laws.specs.declared.formula.Truth.{Truth}
use Rattle.rule_model.specs.BoundModel.{BoundModel}
use Rattle.rule_model.specs.Governing.{rules_for, governing_from, formula_at}
use Rattle.rule_model.specs.System.{system_of}
use Rattle.rule_evaluate.specs.declared.ask.Ask.{Ask}
use Rattle.rule_evaluate.specs.Readings.{Readings, statements_value}
use Rattle.rule_evaluate.specs.Course.{Course, Trial, Sources, sources_of, formula_course, truth_trial, passes, entered}

pub record Scene : Type 0 where
  pub model : BoundModel
  pub cell : ℕ

-- what is known of a cell besides its number
pub record IsOf (model : BoundModel) (cell cube : ℕ) (elements : List ℕ) (is_leaf : Bool) : Type 0 where
  pub is_cell : IsCell model.space cell
  pub own_cube : cube_of model.space cell ≡ cube
  pub own_elements : elements_of model.space cell ≡ elements
  pub placed : is_place model.space cube elements ≡ true
  pub own_kind : is_leaf_cell model.space cell ≡ is_leaf

-- the statement at a place is the first from this place on that has a part for the cell, which is this formula
pub record IsGoverning (s : Scene) (from : ℕ) (found : ℕ × Bor Formula) : Type 0 where
  pub first : governing_from s.model s.cell from ≡ Some found.0
  pub part : formula_at s.model s.cell found.0 ≡ Some found.1.now

-- what a formula takes at the cell
abbrev pub sources_at : Scene → Readings → Sources
sources_at s t = sources_of (system_of s.model) t s.cell

abbrev pub course_at : Scene → Readings → Value → Formula → Course
course_at s t rest = formula_course (sources_at s t) rest

abbrev pub trial_at : Scene → Readings → Value → Truth → Trial
trial_at s t rest = truth_trial (sources_at s t) rest

-- of the statements from a place on: what they give, whether a test passes their questions, and how many are entered
unfoldable pub value_from : Scene → Readings → ℕ → Value
value_from s t place = statements_value (system_of s.model) t s.cell (drop place (rules_for s.model s.cell))

unfoldable pub passes_from : Scene → Readings → (Ask → Bool) → ℕ → Bool
passes_from s t may place = passes (system_of s.model) t s.cell may (drop place (rules_for s.model s.cell))

unfoldable pub entered_from : Scene → Readings → ℕ → ℕ
entered_from s t place = entered (system_of s.model) t s.cell (drop place (rules_for s.model s.cell))

-- of a formula before the statements from a place on: its course, and how many of these statements are entered for it
abbrev pub course_from : Scene → Readings → ℕ → Formula → Course
course_from s t place = course_at s t (value_from s t place)

abbrev pub entered_on : Course → ℕ → ℕ
entered_on course entered = if course.goes_on then entered else 0

abbrev pub entered_after : Scene → Readings → ℕ → Formula → ℕ
entered_after s t place f = entered_on (course_from s t place f) (entered_from s t place)

-- a test passes its questions, and those of the statements where it takes them
pub record IsReady (s : Scene) (t : Readings) (may : Ask → Bool) (place : ℕ) (f : Formula) : Type 0 where
  pub passes : (course_from s t place f).passes may ≡ true
  pub rest : (course_from s t place f).goes_on ≡ true → passes_from s t may place ≡ true

-- what is found at its end: its value; or None where the statements give it
abbrev pub IsEnd : Scene → Readings → ℕ → Formula → ℕ → ℕ → Option Value → Type 0
IsEnd s t place f old new (Some v) =
    (v ≡ (course_from s t place f).value) × (new ≡ old + entered_after s t place f)
IsEnd s t place f old new None =
    (value_from s t place ≡ (course_from s t place f).value)
    × ((course_from s t place f).goes_on ≡ true)
    × (new ≡ old)
