use Rattle.std.proofs.Common.{subst, arith}
use Rattle.std.proofs.lemmas.List.{get_or_default}
use Rattle.least_ranks.specs.Inside.Bounds.{IsOver}
use Rattle.least_ranks.proofs.OverFacts.{over-more, lowest-more, bound-more}
use Rattle.least_ranks.proofs.parts.rank_over.Goals as goal

pub loop-node-preserved : goal.loop-node-preserved
loop-node-preserved g c =
    let graph = g.G.Graph.arrows c.args.graph.now in
    let here = c.in_ok-rank_over_node.ensures in
    record {
      over =
          over-more graph c.args.walk.now c.args.nodes.now c.loop-node.node-index c.loop-node.rank
          c.in_ok-rank_over_node.field-0 c.max-rank.result c.loop-node-test.true c.max-rank.ensures
          c.loop-node.invariant.over here.over;
      lowest =
          lowest-more graph c.args.walk.now c.args.nodes.now c.loop-node.node-index c.loop-node.rank
          c.in_ok-rank_over_node.field-0 c.max-rank.result c.loop-node-test.true c.max-rank.ensures
          c.loop-node.invariant.lowest here.lowest;
      small =
          bound-more graph c.args.walk.now c.args.nodes.now c.loop-node.node-index c.loop-node.rank
          c.in_ok-rank_over_node.field-0 c.max-rank.result c.loop-node-test.true c.max-rank.ensures
          c.loop-node.invariant.small here.small;
    }

pub returns-clause-over : goal.returns-clause-over
returns-clause-over g c k d within =
    let graph = g.G.Graph.arrows c.args.graph.now in
    let it = c.loop-node.invariant.over k (omega (arith, within, c.loop-node-test.false)) in
    subst (IsOver graph c.args.walk.now c.loop-node.rank) (get_or_default c.args.nodes.now k 0 d within) it
