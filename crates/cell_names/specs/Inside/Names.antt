-- Names in quotes, one by one.
use Rattle.std.specs.Prelude.{ℕ, zero, suc, List, [], map, codes}
use Rattle.std.specs.List.{zip}
use Rattle.dim_core.specs.Outline.{Outline, name_of}
use Rattle.cell_names.specs.CellNames.{quoted_name}

-- the names of elements, one of each of these dimensions
abbrev pub quoted_names : List Outline → List ℕ → List (List ℕ)
quoted_names dimensions elements = map (λ pair. quoted_name (name_of pair.0 pair.1)) (zip dimensions elements)

-- what is written before the name at a place, from 0
abbrev pub lead : ℕ → List ℕ
lead zero = []
lead (suc place) = codes ", "
