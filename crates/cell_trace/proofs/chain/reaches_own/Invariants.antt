use Rattle.std.proofs.Common.{◌≡◌, drop}
use Rattle.cell_trace.specs.Trace.{reaches_own}
use Rattle.cell_trace.proofs.chain.reaches_own.Given as goal

abbrev pub invariant-loop-item : goal.invariant-loop-item
invariant-loop-item l = reaches_own (drop l.item-index l.visited) ≡ reaches_own l.visited
