use Rattle.std.proofs.Common.{◌≡◌, ◌++◌, [], replicate}
use Rattle.view_query.specs.Inside.Text.{tabbed}
use Rattle.view_query.proofs.written.write_empty.Given as goal

abbrev pub invariant-loop : goal.invariant-loop
invariant-loop l = l.out.items ≡ l.fn.out.items ++ tabbed (replicate l.counter [])
