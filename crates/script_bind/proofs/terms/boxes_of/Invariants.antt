use Rattle.std.proofs.Common.{◌≡◌, ◌++◌}
use Rattle.std.specs.Vec.Iter.{into_iter_items}
use Rattle.script_bind.proofs.terms.boxes_of.Given as goal

abbrev pub invariant-each : goal.invariant-each
invariant-each l = l.boxes.items ++ into_iter_items l.term-iterator ≡ l.fn.terms.items
