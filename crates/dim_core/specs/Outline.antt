-- What contracts see of a dimension.
use Rattle.std.specs.Prelude.{ℕ, ◌<◌, ◌≤◌, ◌==◌, ◌&&◌, Bool, ℤ, List, [], ◌∷◌, map, find, length, All, sum_by}
use Rattle.std.specs.Prelude.{unsigned_abs, slice_index_or, Option, option_map, unwrap_or, IsTrue}
use Rattle.std.specs.List.{IsDistinct}
use Rattle.dim_order.specs.Levels.{level_of}
use Rattle.dim_order.specs.Loops.{IsOrder}
use Rattle.dim_name.specs.Name.{is_name, is_same_name, place_of}
use Rattle.dim_core.specs.declared.attribute.Attribute.{Attribute}

-- the most elements of a dimension, the most components of all its elements together, each naming counted, and the
-- greatest size of a weight
abbrev pub most_elements : ℕ
most_elements = 100000

abbrev pub most_components : ℕ
most_components = 1000000

abbrev pub most_weight : ℕ
most_weight = 1000000

-- an element: its name as it was written, and its components, each with its weight
pub record Element (Component : Type 0) : Type 0 where
  pub name : List ℕ
  pub components : List (Component × ℤ)

-- a finished dimension: its name, its elements by index, whose components are named by index, and the attributes of
-- its elements in the order in which they were given
pub record Outline : Type 0 where
  pub name : List ℕ
  pub elements : List (Element ℕ)
  pub attributes : List Attribute

-- the elements with these names and these components, place by place
abbrev pub elements_of : {C : Type 0} → List (List ℕ) → List (List (C × ℤ)) → List (Element C)
elements_of [] lists = []
elements_of (name ∷ names) [] = []
elements_of (name ∷ names) (components ∷ lists) = record { name = name; components = components }
    ∷ elements_of names lists

-- the names of the elements
abbrev pub names_of : {C : Type 0} → List (Element C) → List (List ℕ)
names_of elements = map (λ e. e.name) elements

-- the lists of components of the elements
abbrev pub component_lists : {C : Type 0} → List (Element C) → List (List (C × ℤ))
component_lists elements = map (λ e. e.components) elements

-- how many components the elements have together, each naming counted
abbrev pub component_count : {C : Type 0} → List (Element C) → ℕ
component_count elements = sum_by length (component_lists elements)

-- the name of an element
abbrev pub name_of : Outline → ℕ → List ℕ
name_of d element = slice_index_or (names_of d.elements) element []

-- the components of an element; a leaf has none
abbrev pub components_of : Outline → ℕ → List (ℕ × ℤ)
components_of d element = slice_index_or (component_lists d.elements) element []

-- this is an element of the dimension
abbrev pub IsElement : Outline → ℕ → Type 0
IsElement d element = element < length d.elements

-- the level of an element: 0 of a leaf, and otherwise one more than the greatest level of a component
abbrev pub level : Outline → ℕ → ℕ
level d element = level_of (component_lists d.elements) element

-- the index of the element that has this name
abbrev pub index_of : Outline → List ℕ → Option ℕ
index_of d name = place_of (names_of d.elements) name

-- whether this is the attribute of that name of an element
abbrev pub is_attribute : ℕ → List ℕ → Attribute → Bool
is_attribute element name a = (element == a.element) && is_same_name name a.name

-- the text of an attribute of an element among these; empty where it isn't set
abbrev pub text_among : List Attribute → ℕ → List ℕ → List ℕ
text_among attributes element name = unwrap_or (option_map
    (λ a. a.text) (find (is_attribute element name) attributes)) []

abbrev pub attribute_of : Outline → ℕ → List ℕ → List ℕ
attribute_of d element name = text_among d.attributes element name

-- whether both are the same attribute of the same element
abbrev pub is_same_attribute : Attribute → Attribute → Bool
is_same_attribute a b = is_attribute a.element a.name b

-- a weight is at most a million in size
abbrev pub IsWeight : ℤ → Type 0
IsWeight weight = unsigned_abs weight ≤ most_weight

-- what holds of every dimension: it is within the limits, no two elements have the same name, each component is an
-- element of it, with a weight in range, and there is an order of the elements in which components come first; each
-- attribute is one of an element, and none is there twice; and all names are names
pub record IsDimension (d : Outline) : Type 0 where
  pub few : length d.elements ≤ most_elements
  pub few_components : component_count d.elements ≤ most_components
  pub distinct : IsDistinct is_same_name (names_of d.elements)
  pub parts : (e : ℕ) → All (λ c. (c.0 < length d.elements) × IsWeight c.1) (components_of d e)
  pub order : List ℕ
  pub ordered : IsOrder (component_lists d.elements) order
  pub attributes : All (λ a. a.element < length d.elements) d.attributes
  pub attributes_once : IsDistinct is_same_attribute d.attributes
  pub is_named : IsTrue (is_name d.name)
  pub elements_named : All (λ e. IsTrue (is_name e.name)) d.elements
  pub attributes_named : All (λ a. IsTrue (is_name a.name)) d.attributes
