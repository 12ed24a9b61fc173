use Rattle.std.proofs.Common.{◌≡◌, [], replicate}
use Rattle.order_find.proofs.filing.empty_rows.Given as goal

abbrev pub invariant-each : goal.invariant-each
invariant-each l = l.rows.items ≡ replicate l._row []
