use Rattle.std.proofs.Common.{◌+◌, ◌*◌, max}
use Rattle.rule_tree.proofs.tree.Tree.TheLaws.{the_size}
use Rattle.rule_bind.proofs.formula.+values.Given as goal

-- a call that goes no deeper ranks below its caller
abbrev pub decreases-value_of : goal.decreases-value_of
decreases-value_of l = 4 * goal.size-value_of l

abbrev pub decreases-truth_of : goal.decreases-truth_of
decreases-truth_of l = 4 * goal.size-truth_of l

abbrev pub decreases-one_of : goal.decreases-one_of
decreases-one_of l = 4 * goal.size-one_of l + 1

abbrev pub decreases-operation_of : goal.decreases-operation_of
decreases-operation_of l = 4 * max (the_size l.left.now) (the_size l.right.now) + 2

abbrev pub decreases-condition_of : goal.decreases-condition_of
decreases-condition_of l = 4 * max (the_size l.left.now) (the_size l.right.now) + 2

abbrev pub decreases-choice_of : goal.decreases-choice_of
decreases-choice_of l = 4 * max (the_size l.condition.now) (max (the_size l.left.now) (the_size l.right.now)) + 2

abbrev pub decreases-call_of : goal.decreases-call_of
decreases-call_of l = 4 * goal.size-call_of l + 3
