use Rattle.std.proofs.Common.{◌≡◌, drop}
use Rattle.cube_space.specs.Layout.{axes}
use Rattle.view_query.specs.Meaning.{each}
use Rattle.view_query.specs.Binding.{place_named}
use Rattle.view_query.proofs.Meanings.{after_front}
use Rattle.view_query.proofs.sets.set_places.Given as goal

abbrev pub invariant-loop-set : goal.invariant-loop-set
invariant-loop-set l =
    each (λ set. place_named (axes l.space l.cube) set.dim) l.sets
    ≡ after_front l.places.items (each (λ set. place_named (axes l.space l.cube) set.dim) (drop l.set-index l.sets))
