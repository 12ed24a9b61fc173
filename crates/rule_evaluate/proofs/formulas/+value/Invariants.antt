use Rattle.rule_evaluate.proofs.FormulaWeights.{weight, truth_weight}
use Rattle.rule_evaluate.proofs.formulas.+value.Given as goal

abbrev pub decreases-value_of : goal.decreases-value_of
decreases-value_of g l = weight l.formula.now

abbrev pub decreases-holds : goal.decreases-holds
decreases-holds g l = truth_weight l.truth.now
