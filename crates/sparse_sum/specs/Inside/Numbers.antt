-- How much a leaf cell counts in a cell, by its number among the cells of the cube.
use Rattle.std.specs.Prelude.{ℕ, ◌/◌, ◌%◌, ℤ, pos, ◌*ℤ◌, List, [], ◌∷◌}
use Rattle.dim_core.specs.Outline.{Outline}
use Rattle.dim_weights.specs.Coefficients.{coef}
use Rattle.cube_space.specs.Layout.{sizes_of}
use Rattle.cube_space.specs.Radix.{product}

-- the weight in the cell of these elements, one of each of these dimensions
abbrev pub weight_at : List Outline → List ℕ → ℕ → ℤ
weight_at [] cell number = pos 1
weight_at (d ∷ ds) [] number = pos 0
weight_at (d ∷ ds) (e ∷ cell) number =
    coef d e (number / product (sizes_of ds)) *ℤ weight_at ds cell (number % product (sizes_of ds))
