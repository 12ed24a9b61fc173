use Rattle.rule_reader.proofs.formula.+formula_inside.Given as goal

abbrev pub decreases-formula_inside : goal.decreases-formula_inside
decreases-formula_inside l = l.left
