-- How many leaves a dimension has.
use Rattle.std.specs.Prelude.{ℕ, length, filter}
use Rattle.std.specs.List.{range_with_len}
use Rattle.dim_core.specs.Outline.{Outline}
use Rattle.cube_space.specs.Cells.{is_leaf}

abbrev pub leaf_elements : Outline → ℕ
leaf_elements d = length (filter (is_leaf d) (range_with_len 0 (length d.elements)))
