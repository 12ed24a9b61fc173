use Rattle.std.proofs.Common.{◌≡◌, drop}
use Rattle.cube_space.specs.Layout.{axes}
use Rattle.view_query.specs.Meaning.{each}
use Rattle.view_query.specs.Binding.{place_named}
use Rattle.view_query.proofs.Meanings.{after_front}
use Rattle.view_query.proofs.sets.point_places.Given as goal

abbrev pub invariant-loop-dim : goal.invariant-loop-dim
invariant-loop-dim l =
    each (λ point. place_named (axes l.space l.cube) point.0) l.points
    ≡ after_front l.places.items (each (λ point. place_named (axes l.space l.cube) point.0) (drop l.dim-index l.points))
