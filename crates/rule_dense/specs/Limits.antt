-- How large a model may be for plain evaluation.
use Rattle.std.specs.Prelude.{ℕ, ◌<◌, ◌≤◌, length}
use Rattle.cube_space.specs.Layout.{Layout}
use Rattle.cube_space.specs.Cells.{cell_count}
use Rattle.cube_space.specs.Radix.{product}
use Rattle.rule_model.specs.BoundModel.{BoundModel}
use Rattle.rule_model.specs.Order.{most_height, position_sizes}

-- the declared order is no higher than it may be
abbrev pub IsLow : BoundModel → Type 0
IsLow model = product (position_sizes model) ≤ most_height

-- the most cells of a cube
abbrev pub most_cube_cells : ℕ
most_cube_cells = 1000000

abbrev pub HasSmallCubes : Layout → Type 0
HasSmallCubes space = (cube : ℕ) → cube < length space.cubes → cell_count space cube ≤ most_cube_cells
