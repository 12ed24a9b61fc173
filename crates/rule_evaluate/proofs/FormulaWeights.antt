-- How much there is to evaluate of a formula: it goes down from a formula to its parts.
use Rattle.std.proofs.Common.{◌≡◌, ◌+◌, ℕ, ap, ◌∙◌}
use Rattle.rule_laws.specs.declared.formula.Formula.{Formula}
use Rattle.rule_laws.specs.declared.formula.Formula.TheFolds.{fold-Formula, fold-Truth}
use Rattle.rule_laws.specs.declared.formula.Formula.TheOpen.{Formula-F, Truth-F}
use Rattle.rule_laws.specs.declared.formula.Formula.TheVariants.{Binary, Unary, If}
use Rattle.rule_laws.specs.declared.formula.Truth.TheVariants.{Compare, And, Or, Not}
use Rattle.rule_laws.specs.declared.formula.Truth.{Truth}
use Rattle.rule_laws.specs.declared.operation.Op.{Op}
use Rattle.rule_laws.specs.declared.operation.Fun.{Fun}
use Rattle.rule_laws.specs.declared.operation.Rel.{Rel}
use Rattle.rule_laws.proofs.FormulaFolds.{of-binary, of-unary, of-if, of-compare, of-and, of-or, of-not}

unfoldable pub weight_step : Formula-F ℕ ℕ → ℕ
weight_step (Formula-F.Binary op a b) = 1 + (a + b)
weight_step (Formula-F.Unary function a) = 1 + a
weight_step (Formula-F.If t a b) = 1 + (t + (a + b))
weight_step _ = 1

unfoldable pub truth_step : Truth-F ℕ ℕ → ℕ
truth_step (Truth-F.Compare rel a b) = 1 + (a + b)
truth_step (Truth-F.And a b) = 1 + (a + b)
truth_step (Truth-F.Or a b) = 1 + (a + b)
truth_step (Truth-F.Not a) = 1 + a

unfoldable pub weight : Formula → ℕ
weight = fold-Formula ℕ ℕ weight_step truth_step

unfoldable pub truth_weight : Truth → ℕ
truth_weight = fold-Truth ℕ ℕ weight_step truth_step

pub weight_binary : (f : Formula) (op : Op) (a b : Formula) → f ≡ Binary op a b → weight f ≡ 1 + (weight a + weight b)
unfolding weight weight_step
weight_binary f op a b is = ap weight is ∙ of-binary ℕ ℕ weight_step truth_step op a b

pub weight_unary : (f : Formula) (function : Fun) (a : Formula) → f ≡ Unary function a → weight f ≡ 1 + weight a
unfolding weight weight_step
weight_unary f function a is = ap weight is ∙ of-unary ℕ ℕ weight_step truth_step function a

pub weight_if : (f : Formula) (t : Truth) (a b : Formula) → f ≡ If t a b → weight f ≡ 1 + (truth_weight t + (weight a + weight b))
unfolding weight truth_weight weight_step
weight_if f t a b is = ap weight is ∙ of-if ℕ ℕ weight_step truth_step t a b

pub weight_compare : (t : Truth) (rel : Rel) (a b : Formula) → t ≡ Compare rel a b → truth_weight t ≡ 1 + (weight a + weight b)
unfolding weight truth_weight truth_step
weight_compare t rel a b is = ap truth_weight is ∙ of-compare ℕ ℕ weight_step truth_step rel a b

pub weight_and : (t a b : Truth) → t ≡ And a b → truth_weight t ≡ 1 + (truth_weight a + truth_weight b)
unfolding truth_weight truth_step
weight_and t a b is = ap truth_weight is ∙ of-and ℕ ℕ weight_step truth_step a b

pub weight_or : (t a b : Truth) → t ≡ Or a b → truth_weight t ≡ 1 + (truth_weight a + truth_weight b)
unfolding truth_weight truth_step
weight_or t a b is = ap truth_weight is ∙ of-or ℕ ℕ weight_step truth_step a b

pub weight_not : (t a : Truth) → t ≡ Not a → truth_weight t ≡ 1 + truth_weight a
unfolding truth_weight truth_step
weight_not t a is = ap truth_weight is ∙ of-not ℕ ℕ weight_step truth_step a
