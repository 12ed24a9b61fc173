use Rattle.std.proofs.Common.{◌≡◌, [], drop, map}
use Rattle.cube_space.specs.Layout.{axes}
use Rattle.bind_areas.specs.Areas.{placed, alone}
use Rattle.bind_areas.proofs.entry.simple_places.Given as goal

abbrev pub invariant-loop-simple : goal.invariant-loop-simple
invariant-loop-simple l =
    placed (axes l.space l.cube) l.places.items (map alone (drop l.simple-index l.simples))
    ≡ placed (axes l.space l.cube) [] (map alone l.simples)
