-- What the fields of a builder and of a dimension keep.
use Rattle.std.specs.Prelude.{◌≡◌, ℕ, ◌≤◌, ℤ, ◌<◌, List, [], length, Some, sum_by, IsTrue, All, slice_index_or}
use Rattle.std.specs.List.{IsDistinct}
use Rattle.dim_order.specs.Levels.{AreLevels}
use Rattle.dim_order.specs.Loops.{IsOrder}
use Rattle.dim_name.specs.Name.{is_name, is_same_name, place_of}
use Rattle.dim_core.specs.declared.attribute.Attribute.{Attribute}
use Rattle.dim_core.specs.declared.attribute.NamedAttribute.{NamedAttribute}
use Rattle.dim_core.specs.Outline.{IsWeight, is_same_attribute, most_elements, most_components}
use Rattle.dim_core.specs.Draft.{has_weights}

-- a builder has a list of components per name, no name twice, its count of components, and no more than the limits;
-- each weight is in range
pub record IsKept (names : List (List ℕ)) (lists : List (List (List ℕ × ℤ))) (count : ℕ) : Type 0 where
  pub paired : length lists ≡ length names
  pub distinct : IsDistinct is_same_name names
  pub counted : count ≡ sum_by length lists
  pub few : length names ≤ most_elements
  pub few_components : count ≤ most_components
  pub weights : All (λ components. IsTrue (has_weights components)) lists

-- a dimension has a list of components per name, an order of the elements and their levels, within the limits
pub record IsStored (names : List (List ℕ)) (lists : List (List (ℕ × ℤ))) (order levels : List ℕ) : Type 0 where
  pub paired : length lists ≡ length names
  pub distinct : IsDistinct is_same_name names
  pub few : length names ≤ most_elements
  pub few_components : sum_by length lists ≤ most_components
  pub parts : (e : ℕ) → All (λ c. (c.0 < length names) × IsWeight c.1) (slice_index_or lists e [])
  pub ordered : IsOrder lists order
  pub leveled : AreLevels lists levels

-- the names of a builder are names
pub record AreNamed (name : List ℕ) (names : List (List ℕ)) (calls : List NamedAttribute) : Type 0 where
  pub own : IsTrue (is_name name)
  pub elements : All (λ n. IsTrue (is_name n)) names
  pub attributes : All (λ call. IsTrue (is_name call.name)) calls

-- so are those of a dimension, whose attributes are of its elements, none twice
pub record AreAttributed (name : List ℕ) (names : List (List ℕ)) (attributes : List Attribute) : Type 0 where
  pub own : IsTrue (is_name name)
  pub elements : All (λ n. IsTrue (is_name n)) names
  pub named : All (λ a. IsTrue (is_name a.name)) attributes
  pub within : All (λ a. a.element < length names) attributes
  pub once : IsDistinct is_same_attribute attributes

-- the key by which an attribute is found: its element, and the place of its name among these
abbrev pub IsKeyOf : List (List ℕ) → Attribute → ℕ × ℕ → Type 0
IsKeyOf names a key = (key.0 ≡ a.element) × (place_of names a.name ≡ Some key.1)
