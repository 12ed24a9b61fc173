use Rattle.std.proofs.Common.{◌≡◌, drop}
use Rattle.cell_trace.specs.Trace.{reaches_rest}
use Rattle.cell_trace.proofs.chain.reaches_rest.Given as goal

abbrev pub invariant-loop-item : goal.invariant-loop-item
invariant-loop-item l = reaches_rest (drop l.item-index l.visited) ≡ reaches_rest l.visited
