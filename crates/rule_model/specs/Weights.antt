-- How much a leaf cell counts in a cell.
use Rattle.std.specs.Prelude.{ℕ, ◌<◌, ◌≤◌, ◌==◌, if◌then◌else◌, ℤ, pos, ◌*ℤ◌, List, [], ◌∷◌, map, length, filter}
use Rattle.std.specs.List.{AllZip, range_with_len}
use Rattle.dim_core.specs.Outline.{Outline}
use Rattle.dim_weights.specs.Coefficients.{coef}
use Rattle.dim_weights.specs.Table.{IsWeightsOf, leaves_of, greatest_of, nonzero_among}
use Rattle.cube_space.specs.Layout.{Layout, axes}
use Rattle.cube_space.specs.Cells.{cube_of, elements_of, size_of, is_leaf_cell}
use Rattle.cube_space.specs.Radix.{product}

-- the greatest size of a coefficient in a dimension
unfoldable pub greatest_coef : Outline → ℕ
greatest_coef dimension = greatest_of (map (leaves_of dimension) (range_with_len 0 (length dimension.elements)))

-- the weight product of a cube: what a weight of a leaf cell in a cell is at most in size
abbrev pub weight_product : Layout → ℕ → ℕ
weight_product space cube = product (map greatest_coef (axes space cube))

-- there are the coefficients of each dimension
abbrev pub AreWeightsOf : List Outline → List (List (List (ℕ × ℤ))) → Type 0
AreWeightsOf dimensions weights = AllZip IsWeightsOf dimensions weights

-- the greatest weight product that a cube may have
abbrev pub most_weight_product : ℕ
most_weight_product = 1000000000

-- no weight product is above the greatest
abbrev pub HasSmallProducts : Layout → Type 0
HasSmallProducts space =
    (cube : ℕ) → cube < length space.cubes → weight_product space cube ≤ most_weight_product

-- how often the elements of a leaf cell count in those of a cell: the product over the dimensions
abbrev pub coef_product : List Outline → List ℕ → List ℕ → ℤ
coef_product [] cell leaf = pos 1
coef_product (d ∷ ds) [] leaf = pos 0
coef_product (d ∷ ds) (e ∷ cell) [] = pos 0
coef_product (d ∷ ds) (e ∷ cell) (l ∷ leaf) = coef d e l *ℤ coef_product ds cell leaf

-- the weight of a leaf cell in a cell, which is 0 where their cubes differ
unfoldable pub weight : Layout → ℕ → ℕ → ℤ
weight space cell leaf =
    if cube_of space cell == cube_of space leaf
    then coef_product (axes space (cube_of space cell)) (elements_of space cell) (elements_of space leaf)
    else pos 0

-- all leaf cells
unfoldable pub leaf_cells : Layout → List ℕ
leaf_cells space = filter (is_leaf_cell space) (range_with_len 0 (size_of space))

-- the leaf cells below a cell, rising: those with a weight other than 0 in it, each with its weight
abbrev pub leaves_below : Layout → ℕ → List (ℕ × ℤ)
leaves_below space cell = nonzero_among (weight space cell) (leaf_cells space)
