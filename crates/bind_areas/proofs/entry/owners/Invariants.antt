use Rattle.std.proofs.Common.{◌≡◌, ◌++◌, drop}
use Rattle.cube_space.specs.Layout.{axes}
use Rattle.bind_areas.specs.Areas.{owns, places_where}
use Rattle.bind_areas.proofs.entry.owners.Given as goal

abbrev pub invariant-loop-place : goal.invariant-loop-place
invariant-loop-place l =
    l.places.items ++ places_where (owns (record { dim = l.dim; elements = l.names })) l.place (drop l.place (axes l.space l.cube))
    ≡ places_where (owns (record { dim = l.dim; elements = l.names })) 0 (axes l.space l.cube)
