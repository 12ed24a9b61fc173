-- The cell that a reference names from a cell, and the cells of the components in a dimension.
use Rattle.std.specs.Prelude.{ℕ, ℤ, Option, Some, None, option_map, option_and_then, List, [], ◌∷◌, slice_get}
use Rattle.std.specs.Prelude.{slice_index_or, slice_set, unwrap_or}
use Rattle.std.specs.List.{filter_map}
use Rattle.std.specs.Option.{option_map_or}
use Rattle.dim_core.specs.Outline.{components_of}
use Rattle.cube_space.specs.Layout.{Layout, axes}
use Rattle.cube_space.specs.Cells.{cube_of, elements_of, cell_number}
use Rattle.rule_laws.specs.declared.reference.Reference.{Reference}
use Rattle.rule_laws.specs.declared.reference.Arg.{Arg}
use Rattle.rule_laws.specs.declared.reference.Arg.TheVariants.{Fixed, Moved}
use Rattle.rule_model.specs.Named.{with_element}

-- the element that an argument names from a cell of these elements: always the same, or by a map from the cell's
-- element in one dimension
abbrev pub element_by : List ℕ → Arg → Option ℕ
element_by elements (Fixed element) = Some element
element_by elements (Moved from to) =
    option_and_then (λ element. unwrap_or (slice_get to element) None) (slice_get elements from)

-- the elements that the arguments name, or None where one of them names nothing
abbrev pub elements_by : List ℕ → List Arg → Option (List ℕ)
elements_by elements [] = Some []
elements_by elements (arg ∷ args) = with_element (element_by elements arg) (elements_by elements args)

-- the cell that a reference names from a cell, or None where there is no such cell
unfoldable pub target : Layout → Reference → ℕ → Option ℕ
target space reference cell =
    option_and_then (cell_number space reference.cube) (elements_by (elements_of space cell) reference.args)

-- the element of a cell in the dimension at this place of its cube
abbrev pub element_at : Layout → ℕ → ℕ → ℕ
element_at space cell dim = slice_index_or (elements_of space cell) dim 0

-- the cell with another element at this place
abbrev pub with_element_at : Layout → ℕ → ℕ → ℕ → Option ℕ
with_element_at space cell dim element =
    cell_number space (cube_of space cell) (slice_set (elements_of space cell) dim element)

-- the cells that have one of these components, each naming counted, at this place, with the component's weight
abbrev pub with_components : Layout → ℕ → ℕ → List (ℕ × ℤ) → List (ℕ × ℤ)
with_components space cell dim parts =
    filter_map (λ part. option_map (λ x. (x, part.1)) (with_element_at space cell dim part.0)) parts

-- the components of a cell's element in the dimension at this place; none of a leaf, and none where there is no such
-- place
abbrev pub parts_at : Layout → ℕ → ℕ → List (ℕ × ℤ)
parts_at space cell dim =
    option_map_or (λ d. components_of d (element_at space cell dim))
    (slice_get (axes space (cube_of space cell)) dim) []

-- the same as cells; None where the element is a leaf
unfoldable pub component_cells : Layout → ℕ → ℕ → Option (List (ℕ × ℤ))
component_cells space cell dim = from_parts (parts_at space cell dim)
  where
    from_parts : List (ℕ × ℤ) → Option (List (ℕ × ℤ))
    from_parts [] = None
    from_parts (part ∷ parts) = Some (with_components space cell dim (part ∷ parts))
