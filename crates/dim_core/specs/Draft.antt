-- What contracts see of a builder: the definitions that it has taken.
use Rattle.std.specs.Prelude.{◌≡◌, ℕ, ◌+◌, ◌<◌, ◌&&◌, Bool, ℤ, List, [], ◌∷◌, ◌++◌, length, take, Some, IsTrue, nat_le}
use Rattle.std.specs.Prelude.{nat_lt, ◌||◌, unsigned_abs, slice_index_or, not, Option, option_map, position, map}
use Rattle.std.specs.Prelude.{filter_map}
use Rattle.std.specs.List.{AllZip, list_all, list_any, range_with_len}
use Rattle.dim_order.specs.Loops.{first_on_loop}
use Rattle.dim_name.specs.Name.{has_name, is_same_name, place_of}
use Rattle.dim_core.specs.declared.attribute.Attribute.{Attribute}
use Rattle.dim_core.specs.declared.attribute.NamedAttribute.{NamedAttribute}
use Rattle.dim_core.specs.Outline.{Element, Outline, names_of, component_lists, component_count}
use Rattle.dim_core.specs.Outline.{most_elements, most_components, most_weight}

-- the dimension's name, its elements in the order of their definitions, whose components are named as they were
-- written, and the attributes in the order of their calls
pub record Draft : Type 0 where
  pub name : List ℕ
  pub elements : List (Element (List ℕ))
  pub attributes : List NamedAttribute

-- a dimension of which no element is defined yet
abbrev pub empty_draft : List ℕ → Draft
empty_draft name = record { name = name; elements = []; attributes = [] }

-- the draft with one more element
abbrev pub with_element : Draft → List ℕ → List (List ℕ × ℤ) → Draft
with_element draft name components =
    record draft { elements = draft.elements ++ record { name = name; components = components } ∷ [] }

-- the draft with one more attribute of an element
abbrev pub with_attribute : Draft → List ℕ → List ℕ → List ℕ → Draft
with_attribute draft element name text =
    record draft { attributes = draft.attributes ++ record { element = element; name = name; text = text } ∷ [] }

-- whether an element of this name is defined
abbrev pub is_defined : Draft → List ℕ → Bool
is_defined draft name = has_name (names_of draft.elements) name

-- whether each weight is at most a million in size
abbrev pub has_weights : List (List ℕ × ℤ) → Bool
has_weights components = list_all (λ part. nat_le (unsigned_abs part.1) most_weight) components

-- whether one more element with this many components would be one too many, or its components too many
abbrev pub is_too_many : List (Element (List ℕ)) → ℕ → Bool
is_too_many elements further =
    nat_lt most_elements (length elements + 1) || nat_lt most_components (component_count elements + further)

-- whether each of these components is among the names
abbrev pub are_known : List (List ℕ) → List (List ℕ × ℤ) → Bool
are_known names components = list_all (λ part. has_name names part.0) components

-- the first element with a component that isn't defined
abbrev pub first_unknown : Draft → Option ℕ
first_unknown draft =
    position (λ components. not (are_known (names_of draft.elements) components)) (component_lists draft.elements)

-- whether both calls give the same attribute of the same element
abbrev pub is_repeated : NamedAttribute → NamedAttribute → Bool
is_repeated a b = is_same_name a.element b.element && is_same_name a.name b.name

-- whether a call's element isn't among the names, or the call repeats one of those before it
abbrev pub is_bad_attribute : List (List ℕ) → List NamedAttribute → NamedAttribute → Bool
is_bad_attribute names before call = not (has_name names call.element) || list_any (is_repeated call) before

-- a call by its place; there is none past the end, and then it has no names
abbrev pub call_at : List NamedAttribute → ℕ → NamedAttribute
call_at calls place = slice_index_or calls place (record { element = []; name = []; text = [] })

-- the first bad call of an attribute, counted from 1
abbrev pub first_bad_among : List (List ℕ) → List NamedAttribute → Option ℕ
first_bad_among names calls =
    option_map (λ place. place + 1)
    (position (λ place. is_bad_attribute names (take place calls) (call_at calls place)) (range_with_len 0
    (length calls)))

abbrev pub first_bad_attribute : Draft → Option ℕ
first_bad_attribute draft = first_bad_among (names_of draft.elements) draft.attributes

-- the components by index among these names; one that isn't there is left out
abbrev pub by_index : List (List ℕ) → List (List ℕ × ℤ) → List (ℕ × ℤ)
by_index names components =
    filter_map (λ part. option_map (λ index. (index, part.1)) (place_of names part.0)) components

-- the element of least index that lies on a loop of components
abbrev pub first_loop : Draft → Option ℕ
first_loop draft = first_on_loop (map (by_index (names_of draft.elements)) (component_lists draft.elements))

-- each component of each element names an element that was defined before it
abbrev pub HasEarlierComponents : Draft → Type 0
HasEarlierComponents draft =
    (e : ℕ) → e < length draft.elements
    → IsTrue (are_known (take e (names_of draft.elements)) (slice_index_or (component_lists draft.elements) e []))

-- this is the same component by index among these names, of the same weight
abbrev pub IsResolvedPart : List (List ℕ) → List ℕ × ℤ → ℕ × ℤ → Type 0
IsResolvedPart names written resolved = (place_of names written.0 ≡ Some resolved.0) × (resolved.1 ≡ written.1)

-- these are the same components by index, in the same order
abbrev pub IsResolved : List (List ℕ) → List (List ℕ × ℤ) → List (ℕ × ℤ) → Type 0
IsResolved names written resolved = AllZip (IsResolvedPart names) written resolved

-- this is the same attribute, of the element by index among these names
abbrev pub IsResolvedAttribute : List (List ℕ) → NamedAttribute → Attribute → Type 0
IsResolvedAttribute names written resolved =
    (place_of names written.element ≡ Some resolved.element) × (resolved.name ≡ written.name)
    × (resolved.text ≡ written.text)

-- the dimension is the draft, with each component and each attribute's element named by index
pub record IsFinished (draft : Draft) (d : Outline) : Type 0 where
  pub name : d.name ≡ draft.name
  pub elements : AllZip (λ (from : Element (List ℕ)) (to : Element ℕ). (to.name ≡ from.name)
      × IsResolved (names_of draft.elements) from.components to.components) draft.elements d.elements
  pub attributes : AllZip (IsResolvedAttribute (names_of draft.elements)) draft.attributes d.attributes
