use Rattle.ref_order.proofs.most.+endings_from.Given as goal

abbrev pub decreases-endings_from : goal.decreases-endings_from
decreases-endings_from l = l.left
