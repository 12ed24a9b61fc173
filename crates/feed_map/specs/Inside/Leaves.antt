-- Cells whose elements are leaves, dimension by dimension.
use Rattle.std.specs.Prelude.{◌≡◌, ℕ, ◌+◌, ◌<◌, ◌≤◌, true, ⊤}
use Rattle.std.specs.Prelude.{Option, Some, None, if◌then◌else◌, option_map, option_and_then}
use Rattle.std.specs.Prelude.{List, [], ◌∷◌, ◌++◌, length, drop, filter, slice_get, slice_index_or}
use Rattle.std.specs.List.{range_with_len}
use Rattle.dim_core.specs.Outline.{Outline}
use Rattle.dim_weights.specs.Table.{leaves_of}
use Rattle.cube_space.specs.Layout.{Layout, axes_of, dims_of, most_model_cells}
use Rattle.cube_space.specs.Cells.{IsCell, is_leaf, is_leaf_cell, cube_of, cell_number}
use Rattle.feed_map.specs.declared.leaves.Below.{Below}

-- the leaves of a dimension, rising
abbrev pub own_leaves : Outline → List ℕ
own_leaves dimension = filter (is_leaf dimension) (range_with_len 0 (length dimension.elements))

-- the elements to choose leaves from: those that count in an element, or all leaves
abbrev pub candidates : Outline → Option ℕ → ℕ
candidates dimension None = length (own_leaves dimension)
candidates dimension (Some element) = length (leaves_of dimension element)

abbrev pub candidate : Outline → Option ℕ → ℕ → Option ℕ
candidate dimension None place = slice_get (own_leaves dimension) place
candidate dimension (Some element) place = option_map (λ pair. pair.0) (slice_get (leaves_of dimension element) place)

-- the leaf at a place, or None where what stands there is no leaf
abbrev pub leaf_at : Outline → Option ℕ → ℕ → Option ℕ
leaf_at dimension root place =
    option_and_then (λ leaf. if is_leaf dimension leaf then Some leaf else None) (candidate dimension root place)

-- the leaf is at one of the first so many places
abbrev pub IsChosen : Outline → Option ℕ → ℕ → ℕ → Type 0
IsChosen dimension root places leaf = (place : ℕ) × (place < places) × (leaf_at dimension root place ≡ Some leaf)

-- what is asked of the root of a dimension: that it is an element, or that these are the leaves, where there is none
abbrev pub IsRoot : Outline → Option ℕ → List ℕ → Type 0
IsRoot d None leaves = leaves ≡ own_leaves d
IsRoot d (Some element) leaves = element < length d.elements

-- for these dimensions, from a place on, there are roots, or their leaves where there is none
abbrev pub AreRoots : List ℕ → List (List ℕ) → ℕ → List Outline → Type 0
AreRoots roots leaves place [] = ⊤
AreRoots roots leaves place (d ∷ ds) =
    IsRoot d (slice_get roots place) (slice_index_or leaves place []) × AreRoots roots leaves (place + 1) ds

-- each is a leaf of its dimension, from a place on, that counts in the root there; any leaf where there is none
abbrev pub AreChosen : List ℕ → ℕ → List Outline → List ℕ → Type 0
AreChosen roots place [] [] = ⊤
AreChosen roots place [] (leaf ∷ leaves) = ⊥
AreChosen roots place (d ∷ ds) [] = ⊥
AreChosen roots place (d ∷ ds) (leaf ∷ leaves) =
    IsChosen d (slice_get roots place) (candidates d (slice_get roots place)) leaf
    × AreChosen roots (place + 1) ds leaves

-- a cell of the cube whose elements are these and then such leaves
abbrev pub GoesOn : Layout → ℕ → List ℕ → ℕ → List Outline → List ℕ → ℕ → Type 0
GoesOn space cube roots place ds front cell =
    (leaves : List ℕ) × AreChosen roots place ds leaves × (cell_number space cube (front ++ leaves) ≡ Some cell)

-- the same, where the next leaf is at one of the first so many places
abbrev pub GoesOnWithin : Layout → ℕ → List ℕ → ℕ → Outline → List Outline → List ℕ → ℕ → ℕ → Type 0
GoesOnWithin space cube roots place d ds front places cell =
    (leaf : ℕ) × IsChosen d (slice_get roots place) places leaf
    × GoesOn space cube roots (place + 1) ds (front ++ leaf ∷ []) cell

-- the same, where the next leaf is this one; none where there is none
abbrev pub GoesOnBy : Layout → ℕ → List ℕ → ℕ → List Outline → List ℕ → Option ℕ → ℕ → Type 0
GoesOnBy space cube roots place ds front None cell = ⊥
GoesOnBy space cube roots place ds front (Some leaf) cell =
    GoesOn space cube roots (place + 1) ds (front ++ leaf ∷ []) cell

-- the dimensions of a cube from a place on
abbrev pub axes_from : Layout → ℕ → ℕ → List Outline
axes_from space cube place = axes_of space.dimensions (drop place (dims_of space cube))

-- a cell that is looked for, whose elements up to a place are these
abbrev pub IsBelow : Below → ℕ → List ℕ → ℕ → Type 0
IsBelow below place front cell =
    GoesOn below.model.now.space below.cube below.roots.now place
    (axes_from below.model.now.space below.cube place) front cell

-- the same, where the next leaf is this one; none where there is none
abbrev pub IsBelowBy : Below → ℕ → List ℕ → Option ℕ → ℕ → Type 0
IsBelowBy below place front leaf cell =
    GoesOnBy below.model.now.space below.cube below.roots.now place
    (axes_from below.model.now.space below.cube (place + 1)) front leaf cell

-- the cell of these elements and this leaf, which is the last one, has the number that is so far behind the first
pub record IsInRow (space : Layout) (cube place : ℕ) (front : List ℕ) (first leaf : ℕ) : Type 0 where
  pub last : length (dims_of space cube) ≤ place + 1
  pub small : first + leaf < most_model_cells
  pub number : cell_number space cube (front ++ leaf ∷ []) ≡ Some (first + leaf)

-- so has the cell of these elements and any leaf
abbrev pub IsRow : Layout → ℕ → ℕ → List ℕ → ℕ → Type 0
IsRow space cube place front first =
    (d : Outline) (ds : List Outline) (leaf : ℕ) → axes_from space cube place ≡ d ∷ ds → leaf < length d.elements
    → IsInRow space cube place front first leaf

-- a leaf cell of the cube
abbrev pub IsLeafCellOf : Layout → ℕ → ℕ → Type 0
IsLeafCellOf space cube cell = IsCell space cell × (is_leaf_cell space cell ≡ true) × (cube_of space cell ≡ cube)
