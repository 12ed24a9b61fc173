use Rattle.std.proofs.Common.{◌≡◌, ◌++◌}
use Rattle.cell_trace.specs.Visits.{passed}
use Rattle.cell_trace.proofs.visit.pass.Given as goal

abbrev pub invariant-loop : goal.invariant-loop
invariant-loop l = l.items.items ≡ l.fn.items.items ++ passed l.counter
