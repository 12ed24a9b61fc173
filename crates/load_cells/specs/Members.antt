-- The elements of a dimension, as a load asks for them.
use Rattle.std.specs.Prelude.{ℕ, zero, suc, ◌+◌, Bool, List, length, slice_get}
use Rattle.std.specs.Prelude.{Option, Some, None, option_map, option_and_then}
use Rattle.bind_arguments.specs.Numbers.{is_below}
use Rattle.cube_space.specs.Cells.{is_leaf}
use Rattle.cube_space.specs.Layout.{Layout}
use Rattle.dim_core.specs.Outline.{Outline, names_of}
use Rattle.script_values.specs.Elements.{Elements}
use Rattle.load_cells.specs.Names.{attribute_by_text, dimension_by_text, element_by_text}

-- the name of the element at a place, from 1
abbrev pub name_at : Outline → ℕ → Option (List ℕ)
name_at dimension zero = None
name_at dimension (suc index) = slice_get (names_of dimension.elements) index

-- whether an element lies below another one, where both are there
abbrev pub below_where : Outline → Option ℕ → Option ℕ → Option Bool
below_where dimension (Some above) (Some element) = Some (is_below dimension above element)
below_where dimension (Some above) None = None
below_where dimension None element = None

abbrev pub elements_of : Outline → Elements
elements_of dimension =
    record {
      count = length dimension.elements;
      name = name_at dimension;
      place = λ text. option_map (λ index. index + 1) (element_by_text dimension text);
      is_leaf = λ text. option_map (is_leaf dimension) (element_by_text dimension text);
      is_below =
          λ above text. below_where dimension (element_by_text dimension above) (element_by_text dimension text);
      attribute =
          λ text name. option_map (λ index. attribute_by_text dimension index name) (element_by_text dimension text);
    }

-- the elements of the dimension that a text names
abbrev pub elements_by_text : Layout → List ℕ → Option Elements
elements_by_text space text =
    option_map elements_of (option_and_then (slice_get space.dimensions) (dimension_by_text space text))
