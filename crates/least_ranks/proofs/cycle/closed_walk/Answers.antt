use Rattle.least_ranks.proofs.ClosedFacts.{closed-from}
use Rattle.least_ranks.proofs.cycle.closed_walk.Goals as goal

pub returns : goal.returns
returns g c =
    let walk = rw c.in-Some.is at c.in_ok-steps.ensures.found in
    rw c.in_ok-insert-in-Some.ensures.items
    (closed-from
    (g.G.Graph.arrows c.args.graph.now) c.args.step c.args.to c.in-Some.steps.items c.requires.strict walk)
