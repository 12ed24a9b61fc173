-- Lines that name what is there.
use Rattle.std.specs.Prelude.{ℕ, ◌<◌, ⊤, length}
use Rattle.cube_space.specs.Cells.{IsCell, cube_of}
use Rattle.cube_space.specs.Layout.{Layout, axes}
use Rattle.cell_trace.specs.declared.line.Line.{Line}
use Rattle.cell_trace.specs.declared.line.Line.TheVariants as lines

-- a line of the trace of a cell: the cells that it names are cells, and a dimension is one of the cell's cube
abbrev pub IsLineOf : Layout → ℕ → Line → Type 0
IsLineOf space cell (lines.Rule number) = ⊤
IsLineOf space cell (lines.Reads number x value) = IsCell space x
IsLineOf space cell (lines.ReadsNothing number) = ⊤
IsLineOf space cell (lines.Children dim) = dim < length (axes space (cube_of space cell))
IsLineOf space cell (lines.Input stored) = ⊤
IsLineOf space cell lines.Sum = ⊤
IsLineOf space cell (lines.Part part) = IsCell space part.cell
IsLineOf space cell (lines.More count) = ⊤
