-- Those so far, and those of the dimensions to come, are of the whole cube.
use Rattle.std.proofs.Common.{◌≡◌, ◌++◌, drop, map}
use Rattle.cube_space.specs.Layout.{axes, axes_of, dims_of}
use Rattle.feed_map.specs.Inside.Leaves.{own_leaves}
use Rattle.feed_map.proofs.leaves.leaves_of_cube.Given as goal

abbrev pub invariant-each : goal.invariant-each
invariant-each l =
    l.leaves.items ++ map own_leaves (axes_of l.model.space.dimensions (drop l.place (dims_of l.model.space l.cube)))
    ≡ map own_leaves (axes l.model.space l.cube)
