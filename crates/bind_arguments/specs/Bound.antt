-- Element arguments with their names bound, and the name that one gives by the element of the dimension that it
-- follows.
use Rattle.std.specs.Prelude.{ℕ, suc, ℤ, pos, ◌+ℤ◌, List, [], Option, Some, None, position, slice_get, slice_index_or}
use Rattle.std.specs.Prelude.{◌≡◌, if◌then◌else◌}
use Rattle.std.specs.List.{list_any}
use Rattle.std.specs.Option.{option_map, option_map_or, option_and_then}
use Rattle.dim_name.specs.Name.{is_name, is_same_name, place_of}
use Rattle.dim_core.specs.Outline.{Outline, index_of, names_of, attribute_of}
use Rattle.cube_space.specs.Layout.{Layout, dims_of, dimension_names}
use Rattle.bind_arguments.specs.Family.{relative_of}
use Rattle.bind_arguments.specs.Written.{Written, Quoted, Current, AtIndex, AtPlace, AttributeOf, RelativeOf}
use Rattle.bind_arguments.specs.declared.relative.Relative.{Relative}
use Rattle.bind_arguments.specs.declared.bound_argument.BoundArgument.{BoundArgument, fold-BoundArgument}
use Rattle.bind_arguments.specs.declared.bound_argument.BoundArgument.TheOpen.{BoundArgument-F}
use Rattle.bind_arguments.specs.declared.bound_argument.BoundArgument.TheVariants as bound

-- the name that a text is, if it is one
abbrev pub name_in : List ℕ → Option (List ℕ)
name_in text = if is_name text then Some text else None

-- a dimension by its number; one that isn't there has no elements
abbrev pub dimension_at : Layout → ℕ → Outline
dimension_at space dim = slice_index_or space.dimensions dim (record { name = []; elements = []; attributes = [] })

-- the number of the dimension that a text names
abbrev pub dimension_named : Layout → List ℕ → Option ℕ
dimension_named space text = option_and_then (place_of (dimension_names space)) (name_in text)

-- the place in a cube of its dimension of this name
abbrev pub place_in_cube : Layout → ℕ → List ℕ → Option ℕ
place_in_cube space cube name = position (λ dim. is_same_name name (dimension_at space dim).name) (dims_of space cube)

-- the name of an attribute that some element of a dimension has
abbrev pub attribute_named : Outline → List ℕ → Option (List ℕ)
attribute_named dimension text = option_and_then
    (λ name. if list_any (λ a. is_same_name name a.name) dimension.attributes then Some name else None) (name_in text)

-- an argument with its names bound; None where a dimension isn't there, one behind ! isn't the cube's, or no element
-- of a dimension has an attribute
abbrev pub bound_argument : Layout → ℕ → Written → Option BoundArgument
bound_argument space cube (Quoted text) = Some (bound.Text (name_in text))
bound_argument space cube (Current dim) =
    option_map (λ place. bound.Current place (slice_index_or (dims_of space cube) place 0))
    (place_in_cube space cube dim)
bound_argument space cube (AtIndex dim index) = option_map (λ d. bound.AtIndex d index) (dimension_named space dim)
bound_argument space cube (AtPlace dim source of shift) =
    option_and_then (λ argument. option_and_then (λ s. option_map
    (λ d. bound.AtPlace d s argument shift) (dimension_named space dim)) (dimension_named space source))
    (bound_argument space cube of)
bound_argument space cube (AttributeOf dim of attribute) =
    option_and_then (λ argument. option_and_then (λ d. option_map
    (λ name. bound.AttributeOf d argument name) (attribute_named (dimension_at space d) attribute))
    (dimension_named space dim)) (bound_argument space cube of)
bound_argument space cube (RelativeOf dim of relative) =
    option_and_then (λ argument. option_map (λ d. bound.RelativeOf d argument relative) (dimension_named space dim))
    (bound_argument space cube of)

abbrev pub followed_step : BoundArgument-F (Option ℕ) → Option ℕ
followed_step (BoundArgument-F.Text name) = None
followed_step (BoundArgument-F.Current place dim) = Some place
followed_step (BoundArgument-F.AtIndex dim index) = None
followed_step (BoundArgument-F.AtPlace dim source of shift) = of
followed_step (BoundArgument-F.AttributeOf dim of attribute) = of
followed_step (BoundArgument-F.RelativeOf dim of relative) = of

-- the place in the statement's cube of the dimension that an argument follows: the one behind its !
abbrev pub followed : BoundArgument → Option ℕ
followed = fold-BoundArgument (Option ℕ) followed_step

-- the name of the element of an index, from 1
abbrev pub name_at : Outline → ℤ → Option (List ℕ)
name_at dimension (pos (suc element)) = slice_get (names_of dimension.elements) element
name_at dimension _ = None

-- the index, from 1, of the element that has a name; 0 where there is none
abbrev pub index_in : Outline → Option (List ℕ) → ℤ
index_in dimension name =
    option_map_or (λ element. pos (suc element)) (option_and_then (index_of dimension) name) (pos 0)

-- the name that the text of an attribute is, of the element that has a name
abbrev pub attribute_in : Outline → List ℕ → Option (List ℕ) → Option (List ℕ)
attribute_in dimension attribute name =
    option_and_then (λ element. name_in (attribute_of dimension element attribute))
    (option_and_then (index_of dimension) name)

-- the name of the relative of the element that has a name
abbrev pub relative_in : Outline → Relative → Option (List ℕ) → Option (List ℕ)
relative_in dimension relative name =
    option_and_then (slice_get (names_of dimension.elements))
    (option_and_then (relative_of dimension relative) (option_and_then (index_of dimension) name))

abbrev pub given_step : Layout → ℕ → BoundArgument-F (Option (List ℕ)) → Option (List ℕ)
given_step space element (BoundArgument-F.Text name) = name
given_step space element (BoundArgument-F.Current place dim) =
    slice_get (names_of (dimension_at space dim).elements) element
given_step space element (BoundArgument-F.AtIndex dim index) = name_at (dimension_at space dim) index
given_step space element (BoundArgument-F.AtPlace dim source of shift) =
    name_at (dimension_at space dim) (index_in (dimension_at space source) of +ℤ shift)
given_step space element (BoundArgument-F.AttributeOf dim of attribute) =
    attribute_in (dimension_at space dim) attribute of
given_step space element (BoundArgument-F.RelativeOf dim of relative) =
    relative_in (dimension_at space dim) relative of

-- the name that an argument gives, where the dimension that it follows has this element
abbrev pub name_given : Layout → ℕ → BoundArgument → Option (List ℕ)
name_given space element = fold-BoundArgument (Option (List ℕ)) (given_step space element)

-- the element of the target's dimension that it means there
abbrev pub element_given : Layout → ℕ → BoundArgument → ℕ → Option ℕ
element_given space dim argument element =
    option_and_then (index_of (dimension_at space dim)) (name_given space element argument)

-- two arguments give the same names
abbrev pub AreAlike : BoundArgument → BoundArgument → Type 0
AreAlike argument other =
    (space : Layout) → (element : ℕ) → name_given space element argument ≡ name_given space element other
