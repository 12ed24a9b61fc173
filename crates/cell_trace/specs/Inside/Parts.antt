-- The lines of what is added up for the cell.
use Rattle.std.specs.Prelude.{ℕ, List, []}
use Rattle.std.specs.Option.{option_map_or}
use Rattle.cell_values.specs.Reading.{value_on}
use Rattle.rule_model.specs.Targets.{component_cells}
use Rattle.cell_trace.specs.declared.line.Line.{Line}
use Rattle.cell_trace.specs.Trace.{own_lines, part_lines}
use Rattle.cell_trace.specs.Inside.Place.{Place, scene_at}

-- of what the cell would have if no statement governed it, and of its components in a dimension
unfoldable pub own_lines_at : Place → List Line
own_lines_at p = own_lines (scene_at p)

unfoldable pub part_lines_at : Place → ℕ → List Line
part_lines_at p dim =
    option_map_or (part_lines (value_on p.version)) (component_cells p.version.model.space p.cell dim) []
