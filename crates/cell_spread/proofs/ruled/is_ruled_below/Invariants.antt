use Rattle.std.proofs.Common.{◌≡◌, take, false}
use Rattle.std.specs.List.{list_any}
use Rattle.cube_space.specs.Cells.{cube_of, elements_of}
use Rattle.cube_space.specs.Layout.{axes}
use Rattle.cell_spread.specs.Inside.Meets.{speaks_below}
use Rattle.cell_spread.proofs.ruled.is_ruled_below.Given as goal

-- none of the statements so far speaks of a leaf cell below
abbrev pub invariant-loop-statement : goal.invariant-loop-statement
invariant-loop-statement l = record {
  none : list_any (speaks_below (axes l.model.space (cube_of l.model.space l.cell)) (elements_of l.model.space l.cell)) (take l.statement-index l.statements) ≡ false;
}
