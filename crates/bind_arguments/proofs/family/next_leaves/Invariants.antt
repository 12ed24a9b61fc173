use Rattle.bind_arguments.proofs.LeafFacts.{AreLeaves}
use Rattle.bind_arguments.proofs.family.next_leaves.Given as goal

-- those of the last elements are known
abbrev pub invariant-loop-done : goal.invariant-loop-done
invariant-loop-done l = AreLeaves l.dimension l.done l.next l.leaves.items
