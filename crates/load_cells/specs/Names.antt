-- What texts name. A text that is no name names nothing.
use Rattle.std.specs.Prelude.{ℕ, List, [], Option, None, if◌then◌else◌}
use Rattle.std.specs.List.{list_all}
use Rattle.cube_space.specs.Layout.{Layout, cube_names, dimension_names}
use Rattle.dim_core.specs.Outline.{Outline, index_of, attribute_of}
use Rattle.dim_name.specs.Name.{is_name, place_of}
use Rattle.rule_model.specs.Named.{elements_named}

abbrev pub cube_by_text : Layout → List ℕ → Option ℕ
cube_by_text space text = if is_name text then place_of (cube_names space) text else None

abbrev pub dimension_by_text : Layout → List ℕ → Option ℕ
dimension_by_text space text = if is_name text then place_of (dimension_names space) text else None

abbrev pub element_by_text : Outline → List ℕ → Option ℕ
element_by_text dimension text = if is_name text then index_of dimension text else None

abbrev pub elements_by_texts : List Outline → List (List ℕ) → Option (List ℕ)
elements_by_texts dimensions texts = if list_all is_name texts then elements_named dimensions texts else None

-- an element's text of the attribute of this name; empty where it has none
abbrev pub attribute_by_text : Outline → ℕ → List ℕ → List ℕ
attribute_by_text dimension element text = if is_name text then attribute_of dimension element text else []
