use Rattle.std.proofs.Common.{ℕ, ◌<◌, ◌≤◌}
use Rattle.cube_space.specs.Cells.{cell_count}
use Rattle.rule_dense.specs.Limits.{most_cube_cells}
use Rattle.read_cases.proofs.compared.has_small_cubes.Given as goal

abbrev pub invariant-loop-cube : goal.invariant-loop-cube
invariant-loop-cube l = (cube : ℕ) → cube < l.cube → cell_count l.model.space cube ≤ most_cube_cells
