-- What a formula gives at a cell, and what it reads of other cells.
use Rattle.std.specs.Prelude.{ℕ, Bool, true, not, ◌&&◌, ◌||◌, List, [], ◌∷◌, ◌++◌, if◌then◌else◌}
use Rattle.cube_fixed.specs.declared.value.Value.{Value}
use Rattle.cube_fixed.specs.declared.value.Value.TheVariants.{Num}
use Rattle.rule_laws.specs.declared.reference.Reference.{Reference}
use Rattle.rule_laws.specs.declared.formula.Formula.{Formula}
use Rattle.rule_laws.specs.declared.formula.Formula.TheFolds.{fold-Formula, fold-Truth}
use Rattle.rule_laws.specs.declared.formula.Formula.TheOpen.{Formula-F, Truth-F}
use Rattle.rule_laws.specs.declared.formula.Truth.{Truth}
use Rattle.rule_laws.specs.Tables.{number_of}
use Rattle.rule_laws.specs.Operation.{operation_of, function_of, comparison_of}

-- what a formula takes at a cell beside its references: what STET gives, what CONTINUE gives, what ConsolidateChildren
-- gives in each dimension of the cube, and the cell's element in each of them
pub record Others : Type 0 where
  pub stet : Value
  pub rest : Value
  pub children : ℕ → Value
  pub own : ℕ → ℕ

-- the value of a formula by the values of its parts; `named` says what each reference gives
abbrev pub value_step : (Reference → Value) → Others → Formula-F Value Bool → Value
value_step named others (Formula-F.Number k) = Num k
value_step named others Formula-F.Stet = others.stet
value_step named others Formula-F.Continue = others.rest
value_step named others (Formula-F.Children dim) = others.children dim
value_step named others (Formula-F.Ref r) = named r
value_step named others (Formula-F.Table dim table) = Num (number_of table (others.own dim))
value_step named others (Formula-F.Binary op a b) = operation_of op a b
value_step named others (Formula-F.Unary function a) = function_of function a
value_step named others (Formula-F.If truth a b) = if truth then a else b

-- whether a condition holds, by its parts
abbrev pub truth_step : Truth-F Value Bool → Bool
truth_step (Truth-F.Compare rel a b) = comparison_of rel a b
truth_step (Truth-F.And a b) = a && b
truth_step (Truth-F.Or a b) = a || b
truth_step (Truth-F.Not a) = not a

-- the value of a formula at a cell
abbrev pub formula_value : (Reference → Value) → Others → Formula → Value
formula_value named others = fold-Formula Value Bool (value_step named others) truth_step

-- whether a condition holds at a cell
abbrev pub truth_value : (Reference → Value) → Others → Truth → Bool
truth_value named others = fold-Truth Value Bool (value_step named others) truth_step

-- what a formula reads of other cells: the cell that a reference names, or the components in a dimension
pub data Precedent : Type 0 where
  Named : Reference → Precedent
  Components : ℕ → Precedent

abbrev pub precedents_step : Formula-F (List Precedent) (List Precedent) → List Precedent
precedents_step (Formula-F.Number k) = []
precedents_step Formula-F.Stet = []
precedents_step Formula-F.Continue = []
precedents_step (Formula-F.Children dim) = Components dim ∷ []
precedents_step (Formula-F.Ref r) = Named r ∷ []
precedents_step (Formula-F.Table dim table) = []
precedents_step (Formula-F.Binary op a b) = a ++ b
precedents_step (Formula-F.Unary function a) = a
precedents_step (Formula-F.If truth a b) = (truth ++ a) ++ b

abbrev pub truth_precedents_step : Truth-F (List Precedent) (List Precedent) → List Precedent
truth_precedents_step (Truth-F.Compare rel a b) = a ++ b
truth_precedents_step (Truth-F.And a b) = a ++ b
truth_precedents_step (Truth-F.Or a b) = a ++ b
truth_precedents_step (Truth-F.Not a) = a

-- what a formula reads, in reading order
abbrev pub precedents : Formula → List Precedent
precedents = fold-Formula (List Precedent) (List Precedent) precedents_step truth_precedents_step

abbrev pub truth_precedents : Truth → List Precedent
truth_precedents = fold-Truth (List Precedent) (List Precedent) precedents_step truth_precedents_step

abbrev pub each_reference_step : (Reference → Bool) → Formula-F Bool Bool → Bool
each_reference_step test (Formula-F.Number k) = true
each_reference_step test Formula-F.Stet = true
each_reference_step test Formula-F.Continue = true
each_reference_step test (Formula-F.Children dim) = true
each_reference_step test (Formula-F.Ref r) = test r
each_reference_step test (Formula-F.Table dim table) = true
each_reference_step test (Formula-F.Binary op a b) = a && b
each_reference_step test (Formula-F.Unary function a) = a
each_reference_step test (Formula-F.If truth a b) = (truth && a) && b

abbrev pub each_reference_truth_step : Truth-F Bool Bool → Bool
each_reference_truth_step (Truth-F.Compare rel a b) = a && b
each_reference_truth_step (Truth-F.And a b) = a && b
each_reference_truth_step (Truth-F.Or a b) = a && b
each_reference_truth_step (Truth-F.Not a) = a

-- whether each reference of a formula passes a test
abbrev pub each_reference : (Reference → Bool) → Formula → Bool
each_reference test = fold-Formula Bool Bool (each_reference_step test) each_reference_truth_step

abbrev pub each_reference_of_truth : (Reference → Bool) → Truth → Bool
each_reference_of_truth test = fold-Truth Bool Bool (each_reference_step test) each_reference_truth_step
