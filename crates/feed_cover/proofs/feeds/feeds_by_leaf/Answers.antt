use Rattle.std.proofs.Common.{arith}
use Rattle.feed_cover.proofs.Asked.{leaf-none}
use Rattle.feed_cover.proofs.feeds.feeds_by_leaf.Goals as goal

pub returns-clause-none : goal.returns-clause-none
returns-clause-none c = λ off.
    leaf-none c.args.model.now c.args.view c.args.own c.requires.view c.requires.counted c.requires.possible c.space-space.ensures.rules c.requires.own c.each.dim (omega (arith, c.axis_count-dim-end.ensures.count, c.each-test.false)) c.each.invariant.none
