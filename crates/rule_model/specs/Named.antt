-- Cells by the names of their cube and of their elements.
use Rattle.std.specs.Prelude.{ℕ, List, [], ◌∷◌, Option, Some, None, option_and_then}
use Rattle.dim_name.specs.Name.{place_of}
use Rattle.dim_core.specs.Outline.{Outline, index_of}
use Rattle.cube_space.specs.Layout.{Layout, axes, cube_names}
use Rattle.cube_space.specs.Cells.{cell_number}

-- an element before others, where both are there
abbrev pub with_element : Option ℕ → Option (List ℕ) → Option (List ℕ)
with_element None elements = None
with_element (Some element) None = None
with_element (Some element) (Some elements) = Some (element ∷ elements)

-- the elements of these names, one of each dimension, or None where one isn't there or there are too many or too few
abbrev pub elements_named : List Outline → List (List ℕ) → Option (List ℕ)
elements_named [] [] = Some []
elements_named [] (name ∷ names) = None
elements_named (d ∷ ds) [] = None
elements_named (d ∷ ds) (name ∷ names) = with_element (index_of d name) (elements_named ds names)

-- the cell of the cube and the elements that have these names
unfoldable pub cell_named : Layout → List ℕ → List (List ℕ) → Option ℕ
cell_named space cube names =
    option_and_then
    (λ c. option_and_then (cell_number space c) (elements_named (axes space c) names))
    (place_of (cube_names space) cube)
