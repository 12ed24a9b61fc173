use Rattle.std.proofs.Common.{◌≤◌, length}
use Rattle.order_find.specs.Numbers.{AreNumbered, most_places}
use Rattle.order_find.proofs.numbers.number_kind.Given as goal

-- the cubes before this one have their numbers
abbrev pub invariant-each : goal.invariant-each
invariant-each l = record {
  numbered : AreNumbered l.model l.kind l.initial.places.items l.cube l.firsts.items l.places.items;
  few : length l.places.items ≤ most_places;
}
