use Rattle.rule_dense.proofs.Depths.{IsByDepth-sorted}
use Rattle.rule_dense.proofs.depth.by_depth.Goals as goal

pub returns : goal.returns
returns c = IsByDepth-sorted c.args.model.now c.in_ok-cells.cells.items c.sort_by_depth.new.cells.items c.in_ok-cells.ensures c.sort_by_depth.ensures.same c.in_ok-sort_by_depth.ensures.rising
