use Rattle.std.proofs.Common.{◌≡◌, ◌++◌, drop}
use Rattle.cube_space.specs.Layout.{axes}
use Rattle.bind_areas.specs.Areas.{set_at, each_at}
use Rattle.bind_areas.proofs.area.sets_at.Given as goal

abbrev pub invariant-loop-place : goal.invariant-loop-place
invariant-loop-place l =
    l.sets.items ++ each_at (set_at l.entries l.places) l.place (drop l.place (axes l.space l.cube))
    ≡ each_at (set_at l.entries l.places) 0 (axes l.space l.cube)
