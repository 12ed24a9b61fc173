use Rattle.check_order.proofs.walk.+walk.Given as goal

abbrev pub decreases-walk : goal.decreases-walk
decreases-walk l = goal.size-walk l

abbrev pub decreases-walk_truth : goal.decreases-walk_truth
decreases-walk_truth l = goal.size-walk_truth l
