use Rattle.std.proofs.Common.{◌≡◌, drop}
use Rattle.dim_core.specs.Outline.{index_of}
use Rattle.view_query.specs.Meaning.{each, known}
use Rattle.view_query.proofs.Meanings.{after_front}
use Rattle.view_query.proofs.sets.elements_named.Given as goal

abbrev pub invariant-loop-name : goal.invariant-loop-name
invariant-loop-name l =
    each (λ name. known (index_of l.dimension name)) l.names
    ≡ after_front l.elements.items (each (λ name. known (index_of l.dimension name)) (drop l.name-index l.names))
