use Rattle.std.proofs.Common.{◌≡◌, drop}
use Rattle.cube_space.specs.Layout.{axes as axes_of_cube}
use Rattle.view_query.specs.Meaning.{each}
use Rattle.view_query.specs.Binding.{bound_set}
use Rattle.view_query.proofs.Meanings.{after_front}
use Rattle.view_query.proofs.sets.bind_sets.Given as goal

abbrev pub invariant-loop-set : goal.invariant-loop-set
invariant-loop-set l =
    each (bound_set (axes_of_cube l.space l.cube)) l.sets
    ≡ after_front l.axes.items (each (bound_set (axes_of_cube l.space l.cube)) (drop l.set-index l.sets))
