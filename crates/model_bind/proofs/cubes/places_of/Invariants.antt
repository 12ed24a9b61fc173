use Rattle.std.proofs.Common.{◌≡◌, take}
use Rattle.model_bind.specs.Foundation.{cube_places}
use Rattle.model_bind.proofs.cubes.places_of.Given as goal

abbrev pub invariant-loop-cube : goal.invariant-loop-cube
invariant-loop-cube l = l.places.items ≡ cube_places (take l.cube-index l.cubes)
