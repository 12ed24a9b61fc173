use Rattle.std.proofs.Common.{◌≡◌, ◌++◌, take}
use Rattle.cube_space.specs.Layout.{axes}
use Rattle.cell_names.specs.Inside.Names.{quoted_names}
use Rattle.cell_names.specs.CellNames.{listed}
use Rattle.cell_names.proofs.cells.write_elements.Given as goal

abbrev pub invariant-loop-place : goal.invariant-loop-place
invariant-loop-place l =
    l.out.items ≡ l.fn.out.items ++ listed (quoted_names (take l.place (axes l.space l.cube)) (take l.place l.elements))
