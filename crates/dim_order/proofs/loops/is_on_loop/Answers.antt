use Rattle.std.proofs.Common.{◌∙◌}
use Rattle.dim_order.proofs.LoopLemmas.{on_loop}
use Rattle.dim_order.proofs.loops.is_on_loop.Goals as goal

pub returns : goal.returns
returns c = c.has.ensures ∙ on_loop c.args.lists.now c.args.element c.in_ok-leading.leading.list c.in_ok-leading.ensures.grown c.in_ok-leading.ensures.settled c.requires.within c.requires.there
