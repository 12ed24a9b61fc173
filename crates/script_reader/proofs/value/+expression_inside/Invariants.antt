use Rattle.script_reader.proofs.value.+expression_inside.Given as goal

abbrev pub decreases-expression_inside : goal.decreases-expression_inside
decreases-expression_inside l = l.left
