use Rattle.std.proofs.Common.{◌≡◌, drop}
use Rattle.cube_space.specs.Layout.{axes}
use Rattle.view_query.specs.Meaning.{each}
use Rattle.view_query.specs.Binding.{bound_point}
use Rattle.view_query.proofs.Meanings.{after_front}
use Rattle.view_query.proofs.sets.bind_points.Given as goal

abbrev pub invariant-loop-dim : goal.invariant-loop-dim
invariant-loop-dim l =
    each (bound_point (axes l.space l.cube)) l.points
    ≡ after_front l.bound.items (each (bound_point (axes l.space l.cube)) (drop l.dim-index l.points))
