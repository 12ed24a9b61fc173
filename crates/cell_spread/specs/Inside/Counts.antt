-- How many leaf cells are below a cell, dimension by dimension.
use Rattle.std.specs.Prelude.{ℕ, ◌*◌, List, [], ◌∷◌, length}
use Rattle.dim_core.specs.Outline.{Outline}
use Rattle.dim_weights.specs.Table.{leaves_of}

-- the product, over the dimensions, of how many leaves count in the element
abbrev pub leaf_product : List Outline → List ℕ → ℕ
leaf_product [] at = 1
leaf_product (d ∷ ds) [] = 0
leaf_product (d ∷ ds) (e ∷ at) = length (leaves_of d e) * leaf_product ds at
