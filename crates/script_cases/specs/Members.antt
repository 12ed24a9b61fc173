-- Dimensions that are listed in a case, and their elements.
use Rattle.std.specs.Prelude.{ℕ, zero, suc, ◌+◌, Bool, false, List, [], ◌∷◌, length, position, slice_get, bytes_eq}
use Rattle.std.specs.Prelude.{Option, Some, None, option_map, option_and_then}
use Rattle.script_values.specs.Elements.{Elements}
use Rattle.script_cases.specs.declared.listed.ListedAttribute.{ListedAttribute}
use Rattle.script_cases.specs.declared.listed.ListedDimension.{ListedDimension}
use Rattle.script_cases.specs.declared.listed.ListedElement.{ListedElement}
use Rattle.script_cases.specs.Names.{joined}

-- the name of the element at a place, from 1
abbrev pub name_at : List ListedElement → ℕ → Option (List ℕ)
name_at elements zero = None
name_at elements (suc index) = option_map (λ element. element.name) (slice_get elements index)

abbrev pub place_of : List ListedElement → List ℕ → Option ℕ
place_of elements name = position (λ element. bytes_eq element.name name) elements

abbrev pub element_named : List ListedElement → List ℕ → Option ListedElement
element_named elements name = option_and_then (slice_get elements) (place_of elements name)

abbrev pub attribute_place : List ListedAttribute → List ℕ → Option ℕ
attribute_place attributes names = position (λ attribute. bytes_eq attribute.names names) attributes

abbrev pub attribute_named : List ListedAttribute → List ℕ → Option ListedAttribute
attribute_named attributes names = option_and_then (slice_get attributes) (attribute_place attributes names)

-- the text of an attribute; empty where none is listed
abbrev pub text_of : Option ListedAttribute → List ℕ
text_of (Some attribute) = attribute.text
text_of None = []

-- A case lists no components, so that no element lies below another one.
abbrev pub none_below : Option ListedElement → Option ListedElement → Option Bool
none_below (Some above) (Some element) = Some false
none_below (Some above) None = None
none_below None element = None

abbrev pub elements_of : List ListedAttribute → ListedDimension → Elements
elements_of attributes dimension =
    record {
      count = length dimension.elements;
      name = name_at dimension.elements;
      place = λ name. option_map (λ index. index + 1) (place_of dimension.elements name);
      is_leaf = λ name. option_map (λ element. element.is_leaf) (element_named dimension.elements name);
      is_below = λ above name.
          none_below (element_named dimension.elements above) (element_named dimension.elements name);
      attribute = λ name attribute.
          option_map (λ element. text_of (attribute_named attributes (joined dimension.name (name ∷ attribute ∷ []))))
          (element_named dimension.elements name);
    }

abbrev pub dimension_place : List ListedDimension → List ℕ → Option ℕ
dimension_place dimensions name = position (λ dimension. bytes_eq dimension.name name) dimensions

abbrev pub dimension_named : List ListedDimension → List ℕ → Option ListedDimension
dimension_named dimensions name = option_and_then (slice_get dimensions) (dimension_place dimensions name)

abbrev pub elements_named : List ListedDimension → List ListedAttribute → List ℕ → Option Elements
elements_named dimensions attributes name = option_map (elements_of attributes) (dimension_named dimensions name)
