-- The one element that a source of a cell has in a dimension, where there is just one.
use Rattle.std.specs.Prelude.{◌≡◌, ℕ, ◌<◌, Option, Some, None, List, length, slice_index_or}

-- in each dimension with a choice the element is the chosen one
abbrev pub AreChosen : List (Option ℕ) → List ℕ → Type 0
AreChosen choices elements =
    (place element : ℕ) → place < length elements → slice_index_or choices place None ≡ Some element
    → slice_index_or elements place 0 ≡ element
