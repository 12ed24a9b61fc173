use Rattle.std.proofs.Common.{◌≡◌, [], drop}
use Rattle.cube_space.specs.Layout.{axes}
use Rattle.bind_areas.specs.Areas.{placed}
use Rattle.bind_areas.proofs.entry.entry_places.Given as goal

abbrev pub invariant-loop-entry : goal.invariant-loop-entry
invariant-loop-entry l =
    placed (axes l.space l.cube) l.places.items (drop l.entry-index l.entries) ≡ placed (axes l.space l.cube) [] l.entries
