use Rattle.std.proofs.Common.{ℕ, ◌+◌, ◌*◌, max}
use Rattle.rule_laws.proofs.formula.Formula.TheLaws.{the_size}
use Rattle.zero_check.proofs.find.+find.Given as goal

abbrev pub decreases-finding : goal.decreases-finding
decreases-finding g l = 2 * goal.size-finding g l

abbrev pub decreases-truth_finding : goal.decreases-truth_finding
decreases-truth_finding g l = 2 * goal.size-truth_finding g l

abbrev pub decreases-choice_finding : goal.decreases-choice_finding
decreases-choice_finding g l = 2 * max (the_size l.left.now) (the_size l.right.now) + 1
