use Rattle.std.proofs.Common.{◌+◌, ◌*◌, length}
use Rattle.least_ranks.proofs.WayFacts.{IsSearch, unseen_count}
use Rattle.least_ranks.proofs.cycle.way.Given as goal

abbrev pub invariant-steps : goal.invariant-steps
invariant-steps g l = IsSearch (g.G.Graph.arrows l.graph) l.from l.to l.seen.items l.steps.items l.here

abbrev pub decreases-steps : goal.decreases-steps
decreases-steps g l = 2 * unseen_count l.seen.items + length l.steps.items
