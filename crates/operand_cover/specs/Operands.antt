-- The operands of a formula, in reading order, and which references they are.
use Rattle.std.specs.Prelude.{ℕ, ◌-◌, Option, Some, None, List, [], ◌∷◌, ◌++◌, option_and_then, slice_get}
use Rattle.rule_laws.specs.declared.reference.Reference.{Reference}
use Rattle.rule_laws.specs.declared.formula.Formula.{Formula}
use Rattle.rule_laws.specs.declared.formula.Formula.TheFolds.{fold-Formula, fold-Truth}
use Rattle.rule_laws.specs.declared.formula.Formula.TheOpen.{Formula-F, Truth-F}
use Rattle.rule_laws.specs.declared.formula.Truth.{Truth}
use Rattle.operand_cover.specs.declared.operands.Operand.{Operand}
use Rattle.operand_cover.specs.declared.operands.Operand.TheVariants.{Cell, Other}

-- the reference that an operand is, if it is one
abbrev pub reference_of : Operand → Option Reference
reference_of (Cell reference) = Some reference.now
reference_of Other = None

abbrev pub operands_step : Formula-F (List (Option Reference)) (List (Option Reference)) → List (Option Reference)
operands_step (Formula-F.Number k) = None ∷ []
operands_step Formula-F.Stet = None ∷ []
operands_step Formula-F.Continue = []
operands_step (Formula-F.Children dim) = None ∷ []
operands_step (Formula-F.Ref r) = Some r ∷ []
operands_step (Formula-F.Table dim table) = None ∷ []
operands_step (Formula-F.Binary op a b) = a ++ b
operands_step (Formula-F.Unary function a) = a
operands_step (Formula-F.If truth a b) = (truth ++ a) ++ b

abbrev pub truth_operands_step : Truth-F (List (Option Reference)) (List (Option Reference)) → List (Option Reference)
truth_operands_step (Truth-F.Compare rel a b) = a ++ b
truth_operands_step (Truth-F.And a b) = a ++ b
truth_operands_step (Truth-F.Or a b) = a ++ b
truth_operands_step (Truth-F.Not a) = a

-- of each operand of a formula the reference that it is, if it is one. `CONTINUE` is none
abbrev pub operands : Formula → List (Option Reference)
operands = fold-Formula (List (Option Reference)) (List (Option Reference)) operands_step truth_operands_step

abbrev pub truth_operands : Truth → List (Option Reference)
truth_operands = fold-Truth (List (Option Reference)) (List (Option Reference)) operands_step truth_operands_step

-- the one of this number, from 1, of a part of a statement
abbrev pub operand_at : Option Formula → ℕ → Option Reference
operand_at part operand =
    option_and_then (λ known. known) (option_and_then (λ formula. slice_get (operands formula) (operand - 1)) part)
