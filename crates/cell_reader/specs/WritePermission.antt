-- May this cell be written?
use Rattle.std.specs.Prelude.{ℕ, not, Option, Some, None, if◌then◌else◌}
use Rattle.cube_space.specs.Cells.{is_leaf_cell}
use Rattle.rule_model.specs.BoundModel.{BoundModel}
use Rattle.rule_model.specs.Input.{is_input}
use Rattle.cell_reader.specs.declared.write_permission.Closed.{Closed}
use Rattle.cell_reader.specs.declared.write_permission.Closed.TheVariants.{NotALeaf, RuleDerived}

-- why no number may be written into a cell, whatever is stored: leaf cells alone are written, and only those that take
-- input
abbrev pub why_closed : BoundModel → ℕ → Option Closed
why_closed model cell =
    if not (is_leaf_cell model.space cell) then Some NotALeaf
    else if not (is_input model cell) then Some RuleDerived
    else None
