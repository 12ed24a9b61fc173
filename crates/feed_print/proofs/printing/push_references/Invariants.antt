use Rattle.std.proofs.Common.{◌≡◌, ◌++◌, take}
use Rattle.std.specs.List.{flat_map}
use Rattle.feed_print.specs.Printed.{reference_line}
use Rattle.feed_print.proofs.printing.push_references.Given as goal

abbrev pub invariant-each : goal.invariant-each
invariant-each l = l.out.items ≡ l.fn.out.items ++ flat_map reference_line (take l.index l.places)
