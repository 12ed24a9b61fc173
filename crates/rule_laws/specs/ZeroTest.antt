-- A test by cases that shows a formula to be 0 wherever its covered references, STET and CONTINUE are, with the operand
-- that it is blamed on where it fails. What is found of a formula is said by what is found of its parts.
use Rattle.std.specs.Prelude.{ℕ, ◌+◌, ℤ, pos, Bool, true, false, not, ◌&&◌, ◌||◌, min, if◌then◌else◌}
use Rattle.std.specs.Prelude.{Option, Some, None, Result, Ok, Err}
use Rattle.std.specs.Ordering.{int_eq}
use Rattle.std.specs.Option.{option_map, option_map_or, option_or}
use Rattle.cube_fixed.specs.declared.value.Value.{Value}
use Rattle.cube_fixed.specs.declared.value.Value.TheVariants.{Num, Over}
use Rattle.cube_fixed.specs.Arithmetic.{zero_value, opposite_of}
use Rattle.rule_laws.specs.declared.finding.Finding.{Finding}
use Rattle.rule_laws.specs.declared.finding.TruthFinding.{TruthFinding}
use Rattle.rule_laws.specs.declared.reference.Reference.{Reference}
use Rattle.rule_laws.specs.declared.formula.Formula.{Formula}
use Rattle.rule_laws.specs.declared.formula.Formula.TheFolds.{fold-Formula, fold-Truth}
use Rattle.rule_laws.specs.declared.formula.Formula.TheOpen.{Formula-F, Truth-F}
use Rattle.rule_laws.specs.declared.formula.Truth.{Truth}
use Rattle.rule_laws.specs.declared.operation.Op.{Op}
use Rattle.rule_laws.specs.declared.operation.Op.TheVariants.{Add, Sub, Mul, DivSafe, Div, Max, Min, Mod, RoundTo}
use Rattle.rule_laws.specs.declared.operation.Fun.{Fun}
use Rattle.rule_laws.specs.declared.operation.Fun.TheVariants.{Minus, Abs, Sign, Int, Round, Trunc}
use Rattle.rule_laws.specs.declared.operation.Rel.{Rel}
use Rattle.rule_laws.specs.Operation.{comparison_of}

-- the value that a function of a formula is written as: minus of a number
abbrev pub written_as : Fun → Option ℤ → Option Value
written_as Minus number = option_map (λ k. opposite_of (Num k)) number
written_as Abs number = None
written_as Sign number = None
written_as Int number = None
written_as Round number = None
written_as Trunc number = None

-- whether a value is a number other than 0
abbrev pub is_other_than_zero : Value → Bool
is_other_than_zero (Num k) = not (int_eq k (pos 0))
is_other_than_zero Over = false

-- whether a formula is written as a number other than 0
abbrev pub is_divisor : Finding → Bool
is_divisor a = option_map_or is_other_than_zero a.written false

abbrev pub is_number : Value → Bool
is_number (Num k) = true
is_number Over = false

-- whether a formula never gives Over: one that is written as a number, and a table
abbrev pub is_sure_number : Finding → Bool
is_sure_number a = a.is_table || option_map_or is_number a.written false

-- the value that a formula is known to have: the one that it is written as, else 0 where the formula is 0
abbrev pub known_value : Finding → Option Value
known_value a = option_or a.written (if a.is_zero then Some zero_value else None)

-- a comparison is sure where both sides are known
abbrev pub sure_comparison : Rel → Option Value → Option Value → Option Bool
sure_comparison rel (Some a) (Some b) = Some (comparison_of rel a b)
sure_comparison rel (Some a) None = None
sure_comparison rel None b = None

-- surely false where one side is, surely true where both are
abbrev pub sure_and : Option Bool → Option Bool → Option Bool
sure_and (Some false) b = Some false
sure_and (Some true) b = b
sure_and None (Some false) = Some false
sure_and None (Some true) = None
sure_and None None = None

-- surely true where one side is, surely false where both are
abbrev pub sure_or : Option Bool → Option Bool → Option Bool
sure_or (Some true) b = Some true
sure_or (Some false) b = b
sure_or None (Some true) = Some true
sure_or None (Some false) = None
sure_or None None = None

-- whether a formula may say to how many decimals 0 is rounded, which gives 0: it never gives Over
abbrev pub is_decimals : Finding → Bool
is_decimals b = b.is_zero || is_sure_number b

-- whether an operation gives 0, by whether its left side does and by what is found of its right side
abbrev pub zero_operation : Op → Bool → Finding → Bool
zero_operation Add a b = a && b.is_zero
zero_operation Sub a b = a && b.is_zero
zero_operation Max a b = a && b.is_zero
zero_operation Min a b = a && b.is_zero
zero_operation Mul a b = a || b.is_zero
zero_operation DivSafe a b = a || b.is_zero
zero_operation Div a b = a && is_divisor b
zero_operation Mod a b = a && is_divisor b
zero_operation RoundTo a b = a && is_decimals b

-- an IF, by its condition and by whether each branch is 0
abbrev pub zero_choice : Option Bool → Bool → Bool → Bool
zero_choice (Some true) a b = a
zero_choice (Some false) a b = b
zero_choice None a b = a && b

-- of two formulas that stand after so many operands: the operand of the first that isn't 0
abbrev pub first_blamed : ℕ → Finding → Finding → ℕ
first_blamed before a b = if a.is_zero then before + a.operands + b.blamed else before + a.blamed

-- an operation that isn't 0: a sum is blamed on its first side that isn't, and a product on its left side. A division
-- is blamed on its left side or, where its right side is written as no number other than 0, on the first operand of
-- that; a rounding on its left side or, where its right side may be Over, on the operand of that which isn't 0
abbrev pub blamed_side : Op → Finding → Finding → ℕ
blamed_side Add a b = first_blamed 0 a b
blamed_side Sub a b = first_blamed 0 a b
blamed_side Max a b = first_blamed 0 a b
blamed_side Min a b = first_blamed 0 a b
blamed_side Mul a b = a.blamed
blamed_side DivSafe a b = a.blamed
blamed_side Div a b = if is_divisor b then a.blamed else a.operands + min 1 b.operands
blamed_side Mod a b = if is_divisor b then a.blamed else a.operands + min 1 b.operands
blamed_side RoundTo a b = if is_decimals b then a.blamed else a.operands + b.blamed

-- an IF that isn't 0: the branch that its condition surely takes, else the first branch that isn't
abbrev pub blamed_branch : TruthFinding → Finding → Finding → ℕ
blamed_branch truth a b = by_truth truth.sure
  where
    by_truth : Option Bool → ℕ
    by_truth (Some true) = truth.operands + a.blamed
    by_truth (Some false) = truth.operands + a.operands + b.blamed
    by_truth None = first_blamed truth.operands a b

abbrev pub of_number : ℤ → Finding
of_number k = record {
  number = Some k;
  written = Some (Num k);
  is_zero = int_eq k (pos 0);
  is_table = false;
  operands = 1;
  blamed = 1;
}

-- an operand that is neither a number nor a table, a table, and what is no operand
abbrev pub of_operand : Bool → Finding
of_operand zero =
    record { number = None; written = None; is_zero = zero; is_table = false; operands = 1; blamed = 1 }

abbrev pub of_table : Finding
of_table = record { number = None; written = None; is_zero = false; is_table = true; operands = 1; blamed = 1 }

abbrev pub of_continue : Finding
of_continue = record { number = None; written = None; is_zero = true; is_table = false; operands = 0; blamed = 0 }

abbrev pub of_operation : Op → Finding → Finding → Finding
of_operation op a b = record {
  number = None;
  written = None;
  is_zero = zero_operation op a.is_zero b;
  is_table = false;
  operands = a.operands + b.operands;
  blamed = blamed_side op a b;
}

abbrev pub of_function : Fun → Finding → Finding
of_function function a = record {
  number = None;
  written = written_as function a.number;
  is_zero = a.is_zero;
  is_table = false;
  operands = a.operands;
  blamed = a.blamed;
}

abbrev pub of_choice : TruthFinding → Finding → Finding → Finding
of_choice truth a b = record {
  number = None;
  written = None;
  is_zero = zero_choice truth.sure a.is_zero b.is_zero;
  is_table = false;
  operands = truth.operands + a.operands + b.operands;
  blamed = blamed_branch truth a b;
}

abbrev pub finding_step : (Reference → Bool) → Formula-F Finding TruthFinding → Finding
finding_step covers (Formula-F.Number k) = of_number k
finding_step covers Formula-F.Stet = of_operand true
finding_step covers Formula-F.Continue = of_continue
finding_step covers (Formula-F.Children dim) = of_operand false
finding_step covers (Formula-F.Ref r) = of_operand (covers r)
finding_step covers (Formula-F.Table dim table) = of_table
finding_step covers (Formula-F.Binary op a b) = of_operation op a b
finding_step covers (Formula-F.Unary function a) = of_function function a
finding_step covers (Formula-F.If truth a b) = of_choice truth a b

abbrev pub truth_finding_step : Truth-F Finding TruthFinding → TruthFinding
truth_finding_step (Truth-F.Compare rel a b) =
    record { sure = sure_comparison rel (known_value a) (known_value b); operands = a.operands + b.operands }
truth_finding_step (Truth-F.And a b) = record { sure = sure_and a.sure b.sure; operands = a.operands + b.operands }
truth_finding_step (Truth-F.Or a b) = record { sure = sure_or a.sure b.sure; operands = a.operands + b.operands }
truth_finding_step (Truth-F.Not a) = record { sure = option_map not a.sure; operands = a.operands }

-- what is found of a formula and of a condition, where `covers` tells which references are covered
abbrev pub finding : (Reference → Bool) → Formula → Finding
finding covers = fold-Formula Finding TruthFinding (finding_step covers) truth_finding_step

abbrev pub truth_finding : (Reference → Bool) → Truth → TruthFinding
truth_finding covers = fold-Truth Finding TruthFinding (finding_step covers) truth_finding_step

-- whether a formula is 0 wherever its covered references, STET and CONTINUE are
abbrev pub zero_test : (Reference → Bool) → Formula → Bool
zero_test covers f = (finding covers f).is_zero

-- the truth that a condition surely has there, or nothing
abbrev pub sure_test : (Reference → Bool) → Truth → Option Bool
sure_test covers truth = (truth_finding covers truth).sure

-- the operand that a formula is blamed on where it isn't 0, counted from 1 in reading order
abbrev pub blamed : (Reference → Bool) → Formula → ℕ
blamed covers f = (finding covers f).blamed

abbrev pub operands_step : Formula-F ℕ ℕ → ℕ
operands_step (Formula-F.Number k) = 1
operands_step Formula-F.Stet = 1
operands_step Formula-F.Continue = 0
operands_step (Formula-F.Children dim) = 1
operands_step (Formula-F.Ref r) = 1
operands_step (Formula-F.Table dim table) = 1
operands_step (Formula-F.Binary op a b) = a + b
operands_step (Formula-F.Unary function a) = a
operands_step (Formula-F.If truth a b) = truth + a + b

abbrev pub truth_operands_step : Truth-F ℕ ℕ → ℕ
truth_operands_step (Truth-F.Compare rel a b) = a + b
truth_operands_step (Truth-F.And a b) = a + b
truth_operands_step (Truth-F.Or a b) = a + b
truth_operands_step (Truth-F.Not a) = a

-- how many operands a formula has: its numbers, references, tables, STETs and ConsolidateChildrens; CONTINUE is none
abbrev pub operands : Formula → ℕ
operands = fold-Formula ℕ ℕ operands_step truth_operands_step

abbrev pub operands_of_truth : Truth → ℕ
operands_of_truth = fold-Truth ℕ ℕ operands_step truth_operands_step

-- the verdict on a formula: Ok where it passes the zero test, else the operand that it is blamed on
abbrev pub zero_verdict : (Reference → Bool) → Formula → Result (Unit {0}) ℕ
zero_verdict covers f = if zero_test covers f then Ok tt else Err (blamed covers f)
