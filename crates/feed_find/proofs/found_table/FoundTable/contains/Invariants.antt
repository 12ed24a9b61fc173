use Rattle.std.proofs.Common.{◌≡◌, false, take, slice_get}
use Rattle.std.specs.List.{list_any}
use Rattle.std.specs.Option.{option_map_or}
use Rattle.feed_find.specs.Found.{same_found}
use Rattle.feed_find.proofs.found_table.FoundTable.contains.Given as goal

abbrev pub invariant-each : goal.invariant-each
invariant-each l =
    list_any (λ place. option_map_or (same_found l.one) (slice_get l.self place) false) (take l.k l.places) ≡ false
