-- How a cell is named in what users read: names in quotes, as the model defines them.
use Rattle.std.specs.Prelude.{ℕ, List, [], ◌∷◌, ◌++◌, map, codes, slice_index_or, ◌==◌, filter, not}
use Rattle.std.specs.List.{zip}
use Rattle.cube_lex.specs.Quoted.{quoted}
use Rattle.cube_space.specs.Cells.{cube_of, elements_of}
use Rattle.cube_space.specs.Layout.{Layout, axes, cube_names}
use Rattle.dim_core.specs.Outline.{name_of}
use Rattle.dim_name.specs.Bytes.{newline}

-- texts with a comma and a space between each two
abbrev pub listed : List (List ℕ) → List ℕ
listed [] = []
listed (first ∷ []) = first
listed (first ∷ second ∷ rest) = first ++ codes ", " ++ listed (second ∷ rest)

-- a text in one line: a line end in it isn't printed
abbrev pub one_line : List ℕ → List ℕ
one_line text = filter (λ byte. not (byte == newline)) text

-- a name as it is printed
abbrev pub quoted_name : List ℕ → List ℕ
quoted_name name = quoted (one_line name)

-- the elements of a cell
abbrev pub element_names : Layout → ℕ → List ℕ
element_names space cell =
    listed (map (λ pair. quoted_name (name_of pair.0 pair.1))
    (zip (axes space (cube_of space cell)) (elements_of space cell)))

abbrev pub cube_name : Layout → ℕ → List ℕ
cube_name space cell = quoted_name (slice_index_or (cube_names space) (cube_of space cell) [])

-- a cell as a command names it: its cube, and its elements in parentheses
abbrev pub cell_named : Layout → ℕ → List ℕ
cell_named space cell = cube_name space cell ++ codes " (" ++ element_names space cell ++ codes ")"

-- the name of a dimension of the cell's cube
abbrev pub dimension_name : Layout → ℕ → ℕ → List ℕ
dimension_name space cell dim =
    quoted_name (slice_index_or (map (λ axis. axis.name) (axes space (cube_of space cell))) dim [])
