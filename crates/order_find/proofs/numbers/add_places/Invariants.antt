use Rattle.std.proofs.Common.{◌≡◌, ◌++◌}
use Rattle.order_find.specs.Numbers.{places_of}
use Rattle.order_find.proofs.numbers.add_places.Given as goal

abbrev pub invariant-each : goal.invariant-each
invariant-each l = l.places.items ≡ l.initial.places.items ++ places_of l.cube l.kind l.element
