use Rattle.least_ranks.specs.Inside.Ways.{IsSeenUpTo}
use Rattle.least_ranks.proofs.cycle.unseen_slot.Given as goal

abbrev pub invariant-loop-slot : goal.invariant-loop-slot
invariant-loop-slot g l = IsSeenUpTo (g.G.Graph.arrows l.graph) l.seen l.here.node l.slot
