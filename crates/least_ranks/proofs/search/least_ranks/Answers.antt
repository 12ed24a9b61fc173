use Rattle.std.proofs.Common.{ℕ, List, sym, subst, arith}
use Rattle.least_ranks.specs.Graph.{Fits, IsLeast}
use Rattle.least_ranks.proofs.RunFacts.{ranks-fit, ranks-least}
use Rattle.least_ranks.proofs.search.least_ranks.Goals as goal

pub returns-clause-fits : goal.returns-clause-fits
returns-clause-fits g c =
    let graph = g.G.Graph.arrows c.args.graph.now in
    let walk = c.loop-node.invariant in
    subst (λ (ranks : List ℕ). Fits graph ranks) (sym c.in_ok-ranks.ensures)
    (ranks-fit graph c.loop-node.walk walk.sound walk.idle
    (λ k there. walk.begun k (omega (arith, there, c.loop-node-test.false, c.node_count-node-end.ensures))))

pub returns-clause-least : goal.returns-clause-least
returns-clause-least g c =
    let graph = g.G.Graph.arrows c.args.graph.now in
    let walk = c.loop-node.invariant in
    subst (λ (ranks : List ℕ). IsLeast graph ranks) (sym c.in_ok-ranks.ensures)
    (ranks-least graph c.loop-node.walk walk.sound walk.idle
    (λ k there. walk.begun k (omega (arith, there, c.loop-node-test.false, c.node_count-node-end.ensures))))
