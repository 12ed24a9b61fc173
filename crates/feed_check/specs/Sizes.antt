-- How many leaf cells a cube has.
use Rattle.std.specs.Prelude.{◌≡◌, ℕ, ◌<◌, ◌≤◌, ◌==◌, true, length, filter}
use Rattle.cube_space.specs.Layout.{Layout}
use Rattle.cube_space.specs.Cells.{cube_of}
use Rattle.rule_laws.specs.Feeding.{is_dense}
use Rattle.rule_model.specs.BoundModel.{BoundModel}
use Rattle.rule_model.specs.Weights.{leaf_cells}
use Rattle.rule_model.specs.System.{system_of}

unfoldable pub leaf_count : Layout → ℕ → ℕ
leaf_count space cube = length (filter (λ c. cube_of space c == cube) (leaf_cells space))

-- the most leaf cells that a dense cube may have
abbrev pub most_dense : ℕ
most_dense = 1000000

-- a cube that is dense isn't larger
abbrev pub IsSmall : BoundModel → ℕ → Type 0
IsSmall model cube = is_dense (system_of model) cube ≡ true → leaf_count model.space cube ≤ most_dense

-- and no cube of the model is
abbrev pub AreSmall : BoundModel → Type 0
AreSmall model = (cube : ℕ) → cube < length model.space.cubes → IsSmall model cube
