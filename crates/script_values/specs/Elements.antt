-- The elements of dimensions, as a load asks for them.
use Rattle.std.specs.Prelude.{ℕ, ◌/◌, ◌%◌, nat_eq, pos, negsuc, Bool, true, false, List, []}
use Rattle.std.specs.Prelude.{Option, Some, None, Result, Ok, Err, codes, if◌then◌else◌}
use Rattle.cube_fixed.specs.declared.value.Value.{Value}
use Rattle.cube_fixed.specs.declared.value.Value.TheVariants.{Num, Over}
use Rattle.cube_fixed.specs.Range.{unit}
use Rattle.script_values.specs.declared.load_reason.LoadReason.{LoadReason}
use Rattle.script_values.specs.declared.load_reason.LoadReason.TheVariants.{UnknownName}

-- the elements of a dimension, by their names
pub record Elements : Type 0 where
  -- how many there are
  pub count : ℕ
  -- the name of the one at a place, from 1 in the order of the dimension, as it was defined
  pub name : ℕ → Option (List ℕ)
  -- the place of the one of this name, from 1
  pub place : List ℕ → Option ℕ
  -- whether the one of this name is a leaf
  pub is_leaf : List ℕ → Option Bool
  -- whether the one of the second name lies below that of the first one, at any depth and whatever the weights
  pub is_below : List ℕ → List ℕ → Option Bool
  -- the text of an attribute of the one of this name, by the attribute's name; empty where it has none
  pub attribute : List ℕ → List ℕ → Option (List ℕ)

-- what is asked of a dimension's elements, where there is such a dimension
abbrev pub of_elements : {A : Type 0} → (Elements → A) → Option Elements → Result A LoadReason
of_elements ask (Some elements) = Ok (ask elements)
of_elements ask None = Err UnknownName

-- what is asked of an element, where there is such an element
abbrev pub of_element : {A : Type 0} → Option A → Result A LoadReason
of_element (Some given) = Ok given
of_element None = Err UnknownName

-- the place that a number says; 0, where no element stands, if it isn't a whole number above 0
abbrev pub place_said : Value → ℕ
place_said (Num (pos millionths)) = if nat_eq (millionths % unit) 0 then millionths / unit else 0
place_said (Num (negsuc n)) = 0
place_said Over = 0

-- what DTYPE gives for a leaf, for a consolidated element, and where there is no element
abbrev pub kind_text : Option Bool → List ℕ
kind_text (Some true) = codes "N"
kind_text (Some false) = codes "C"
kind_text None = []
