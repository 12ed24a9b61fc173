-- The names that a load has found last. Private functions cite it.
use Rattle.std.specs.Prelude.{◌≡◌, ◌<◌, ℕ, Bool, false, List, [], length, get_or, Option, Some, IfSome, slice_get}
use Rattle.std.specs.List.{All}
use Rattle.bind_arguments.specs.Numbers.{is_below}
use Rattle.cube_space.specs.Layout.{Layout}
use Rattle.dim_core.specs.Outline.{Outline}
use Rattle.load_cells.specs.Names.{cube_by_text, dimension_by_text, element_by_text}
use Rattle.load_cells.specs.declared.below.FoundBelow.{FoundBelow}
use Rattle.load_cells.specs.declared.found.FoundName.{FoundName}
use Rattle.load_cells.specs.declared.found.FoundElements.{FoundElements}
use Rattle.load_cells.specs.declared.found.FoundNames.{FoundNames}

-- the text that was found names this number, where one was found
abbrev pub IsFound : (List ℕ → Option ℕ) → FoundName → Type 0
IsFound named found = (found.text.items ≡ [] → ⊥) → named found.text.items ≡ Some found.number

-- each text at a place names its number
abbrev pub AreNames : (List ℕ → Option ℕ) → FoundElements → Type 0
AreNames named found = All (IsFound named) found.names.items

-- for each dimension elements that were found
pub record AreElements (dimensions : List Outline) (found : List FoundElements) : Type 0 where
  pub each_dimension : length found ≡ length dimensions
  pub found_there : (dim : ℕ) (dimension : Outline) (names : FoundElements) → slice_get dimensions dim ≡ Some dimension
      → slice_get found dim ≡ Some names → AreNames (element_by_text dimension) names

-- for each element of a dimension, whether it lies below the one that was asked for
abbrev pub AreMarks : Outline → ℕ → List Bool → Type 0
AreMarks dimension above marks = (length marks ≡ length dimension.elements)
    × ((element : ℕ) → element < length marks → get_or marks element false ≡ is_below dimension above element)

abbrev pub IsFoundBelow : Layout → FoundBelow → Type 0
IsFoundBelow space found = (dimension : Outline) → slice_get space.dimensions found.dim ≡ Some dimension
    → AreMarks dimension found.above found.marks.items

pub record AreFound (space : Layout) (names : FoundNames) : Type 0 where
  pub cube : IsFound (cube_by_text space) names.cube
  pub dimension : IsFound (dimension_by_text space) names.dimension
  pub elements : AreElements space.dimensions names.elements.items
  pub below : IfSome names.below (IsFoundBelow space)
