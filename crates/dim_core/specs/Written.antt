-- The definitions by which a finished dimension is defined again.
use Rattle.std.specs.Prelude.{ℕ, ℤ, List, [], map, slice_index_or}
use Rattle.dim_core.specs.declared.attribute.Attribute.{Attribute}
use Rattle.dim_core.specs.declared.attribute.NamedAttribute.{NamedAttribute}
use Rattle.dim_core.specs.Draft.{Draft}
use Rattle.dim_core.specs.Outline.{Element, Outline, names_of}

-- components by the names of their elements, each with its weight
abbrev pub by_name : List (List ℕ) → List (ℕ × ℤ) → List (List ℕ × ℤ)
by_name names components = map (λ part. (slice_index_or names part.0 [], part.1)) components

abbrev pub written_element : List (List ℕ) → Element ℕ → Element (List ℕ)
written_element names e = record { name = e.name; components = by_name names e.components }

abbrev pub written_attribute : List (List ℕ) → Attribute → NamedAttribute
written_attribute names a = record { element = slice_index_or names a.element []; name = a.name; text = a.text }

-- the draft with the elements and attributes of a dimension, by name
abbrev pub written : Outline → Draft
written d = record {
  name = d.name;
  elements = map (written_element (names_of d.elements)) d.elements;
  attributes = map (written_attribute (names_of d.elements)) d.attributes;
}
