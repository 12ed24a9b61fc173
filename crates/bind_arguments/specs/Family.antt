-- The elements around an element of a dimension: its components, its parents and the next leaf.
use Rattle.std.specs.Prelude.{ℕ, suc, ◌==◌, ◌-◌, Bool, List, filter, find, length, Option, slice_get}
use Rattle.std.specs.List.{list_any, range_with_len}
use Rattle.std.specs.Option.{option_map}
use Rattle.dim_core.specs.Outline.{Outline, components_of}
use Rattle.cube_space.specs.Cells.{is_leaf}
use Rattle.bind_arguments.specs.declared.relative.Relative.{Relative}
use Rattle.bind_arguments.specs.declared.relative.Relative.TheVariants as relatives

-- whether an element is a component of another one, whatever its weight
abbrev pub is_component : Outline → ℕ → ℕ → Bool
is_component d parent element = list_any (λ part. part.0 == element) (components_of d parent)

-- the consolidations that have an element as a component, in the order of the dimension, each of them once
abbrev pub parents_of : Outline → ℕ → List ℕ
parents_of d element = filter (λ parent. is_component d parent element) (range_with_len 0 (length d.elements))

-- the first leaf behind an element
abbrev pub next_leaf : Outline → ℕ → Option ℕ
next_leaf d element = find (is_leaf d) (range_with_len (suc element) (length d.elements - suc element))

-- the element that is this relative of an element
abbrev pub relative_of : Outline → Relative → ℕ → Option ℕ
relative_of d (relatives.Parent place) element = slice_get (parents_of d element) place
relative_of d (relatives.Component place) element =
    option_map (λ part. part.0) (slice_get (components_of d element) place)
relative_of d relatives.NextLeaf element = next_leaf d element
