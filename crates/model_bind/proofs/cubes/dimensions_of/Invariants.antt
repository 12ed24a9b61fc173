use Rattle.std.proofs.Common.{◌≡◌, map}
use Rattle.model_bind.proofs.cubes.dimensions_of.Given as goal

abbrev pub invariant-loop-text : goal.invariant-loop-text
invariant-loop-text l =
    (goal.iterator-loop-text).can_next l.text-iterator ×
    (goal.iterator-loop-text).is_finite l.text-iterator ×
    (l.dimensions.items ≡ map (λ text. text.dimension) l.yielded)
