use Rattle.std.proofs.Common.{◌≡◌, drop, take}
use Rattle.cube_space.specs.Layout.{axes_of}
use Rattle.rule_model.specs.Named.{elements_named}
use Rattle.rule_model.proofs.Named.{with_front}
use Rattle.rule_model.proofs.cells.find_elements.Given as goal

-- the elements so far, and those of the names that are left
abbrev pub invariant-each : goal.invariant-each
invariant-each l =
    elements_named (axes_of l.space.dimensions l.dims) l.names
    ≡ with_front (take l.place l.at) (elements_named (axes_of l.space.dimensions (drop l.place l.dims)) (drop l.place l.names))
