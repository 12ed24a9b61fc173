-- The dimensions that are left decide.
use Rattle.std.proofs.Common.{◌≡◌, drop}
use Rattle.cube_space.specs.Layout.{axes_of}
use Rattle.rule_model.specs.Areas.{in_source_sets}
use Rattle.feed_sources.proofs.source.in_source_sets.Given as goal

abbrev pub invariant-each : goal.invariant-each
invariant-each l =
    in_source_sets (axes_of l.model.space.dimensions l.dims) l.sets l.elements
    ≡ in_source_sets (axes_of l.model.space.dimensions (drop l.place l.dims)) (drop l.place l.sets) (drop l.place l.elements)
