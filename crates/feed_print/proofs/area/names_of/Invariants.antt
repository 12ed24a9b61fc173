use Rattle.std.proofs.Common.{◌≡◌, take, map}
use Rattle.dim_core.specs.Outline.{name_of}
use Rattle.feed_print.proofs.area.names_of.Given as goal

abbrev pub invariant-each : goal.invariant-each
invariant-each l = l.names.items ≡ map (name_of l.dimension) (take l.element-index l.elements)
