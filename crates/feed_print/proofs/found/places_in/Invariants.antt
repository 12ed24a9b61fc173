use Rattle.std.proofs.Common.{◌≡◌, ◌++◌, drop}
use Rattle.feed_print.specs.FoundText.{places_in}
use Rattle.feed_print.proofs.found.places_in.Given as goal

-- those so far, and those of the references that are left
abbrev pub invariant-each : goal.invariant-each
invariant-each l = l.places.items ++ places_in l.cube (drop l.one-index l.unturned) ≡ places_in l.cube l.unturned
