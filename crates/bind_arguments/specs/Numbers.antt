-- The numbers that a function gives the elements of a dimension, in millionths.
use Rattle.std.specs.Prelude.{◌≡◌, ℕ, ◌+◌, ◌*◌, ◌<◌, Bool, ℤ, pos, List, [], map, length, slice_get, All, IfSome}
use Rattle.std.specs.Prelude.{⊤, Result, Ok, Err, if◌then◌else◌, codes}
use Rattle.std.specs.List.{range_with_len}
use Rattle.cube_fixed.specs.Range.{unit}
use Rattle.cube_fixed.specs.Text.{number_of, reading_of}
use Rattle.cube_fixed.specs.declared.reading.NumberFault.{NumberFault}
use Rattle.dim_name.specs.Name.{is_same_name}
use Rattle.dim_core.specs.Outline.{Outline, level, name_of, components_of, component_lists, attribute_of}
use Rattle.dim_order.specs.Loops.{is_reached}
use Rattle.std.specs.Option.{option_map_or}
use Rattle.cube_space.specs.Cells.{is_leaf}
use Rattle.cube_space.specs.Layout.{Layout, axes}
use Rattle.bind_arguments.specs.Family.{is_component, parents_of}
use Rattle.bind_arguments.specs.Bound.{dimension_at}
use Rattle.bind_arguments.specs.declared.element_function.ElementFunction.{ElementFunction}
use Rattle.bind_arguments.specs.declared.element_function.ElementFunction.TheVariants as functions
use Rattle.bind_arguments.specs.declared.element_text.ElementText.{ElementText}
use Rattle.bind_arguments.specs.declared.element_text.ElementText.TheVariants as texts
use Rattle.bind_arguments.specs.declared.bound_tables.BoundTable.{BoundTable}

-- a text as a number; 0 where it is none, or out of range
abbrev pub read_or_zero : Result ℤ NumberFault → ℤ
read_or_zero (Ok number) = number
read_or_zero (Err fault) = pos 0

-- whether an element lies below another one, at any depth and whatever the weights
abbrev pub is_below : Outline → ℕ → ℕ → Bool
is_below d above element = is_reached (component_lists d.elements) (length d.elements) above element

-- the letter of a leaf or of a consolidation
abbrev pub kind_text : Bool → List ℕ
kind_text leaf = if leaf then codes "N" else codes "C"

-- a text of an element
abbrev pub text_for : Outline → ElementText → ℕ → List ℕ
text_for d (texts.Fixed text) element = text
text_for d texts.Name element = name_of d element
text_for d texts.Kind element = kind_text (is_leaf d element)
text_for d (texts.Attribute name) element = attribute_of d element name

abbrev pub number_for : Outline → ElementFunction → ℕ → ℤ
number_for d functions.Place element = pos ((element + 1) * unit)
number_for d functions.Level element = pos (level d element * unit)
number_for d (functions.ComponentOf parent) element = if is_component d parent element then pos unit else pos 0
number_for d (functions.Below above) element = if is_below d above element then pos unit else pos 0
number_for d (functions.Attribute name) element = read_or_zero (reading_of (number_of (attribute_of d element name)))
number_for d functions.ComponentCount element = pos (length (components_of d element) * unit)
number_for d functions.ParentCount element = pos (length (parents_of d element) * unit)
number_for d (functions.Same one other) element =
    if is_same_name (text_for d one element) (text_for d other element) then pos unit else pos 0

-- the element whose components are asked for is one of the dimension
abbrev pub is_within : Outline → ElementFunction → Type 0
is_within d functions.Place = ⊤
is_within d functions.Level = ⊤
is_within d (functions.ComponentOf parent) = parent < length d.elements
is_within d (functions.Below above) = above < length d.elements
is_within d (functions.Attribute name) = ⊤
is_within d functions.ComponentCount = ⊤
is_within d functions.ParentCount = ⊤
is_within d (functions.Same one other) = ⊤

-- for each element of the dimension
unfoldable pub numbers_over : Outline → ElementFunction → List ℤ
numbers_over d function = map (number_for d function) (range_with_len 0 (length d.elements))

-- over the dimension at a place of a cube
abbrev pub numbers_at : Layout → ℕ → ℕ → ElementFunction → List ℤ
numbers_at space cube place function =
    option_map_or (λ d. numbers_over d function) (slice_get (axes space cube) place) []

abbrev pub is_within_at : Layout → ℕ → ℕ → ElementFunction → Type 0
is_within_at space cube place function = IfSome (slice_get (axes space cube) place) (λ d. is_within d function)

-- a table that was made has the numbers of its function in this space
abbrev pub IsTableIn : Layout → BoundTable → Type 0
IsTableIn space made = made.numbers ≡ numbers_over (dimension_at space made.dim) made.function

-- each of them has
unfoldable pub AreTablesIn : Layout → List BoundTable → Type 0
AreTablesIn space made = All (IsTableIn space) made
