-- How an area is narrowed to the first cell for which what is read comes late.
use Rattle.std.specs.Prelude.{◌≡◌, ℕ, zero, suc, ◌-◌, ◌<◌, nat_lt, ◌⊎◌, Bool, true, false, not, if◌then◌else◌, ℤ}
use Rattle.std.specs.Prelude.{Option, Some, None, List, map, length, slice_index_or, slice_set}
use Rattle.std.specs.List.{range_with_len}
use Rattle.std.specs.Option.{option_map_or}
use Rattle.cube_space.specs.Layout.{sizes}
use Rattle.rule_laws.specs.Meaning.{Precedent}
use Rattle.rule_laws.specs.RuleSystem.{Rule, applies}
use Rattle.rule_model.specs.declared.area.Area.{Area}
use Rattle.rule_model.specs.declared.rules.Form.TheVariants.{Both}
use Rattle.rule_model.specs.BoundModel.{BoundModel}
use Rattle.rule_model.specs.Conditions.{IsArea}
use Rattle.rule_model.specs.Order.{most_positions}
use Rattle.rule_model.specs.System.{system_of, rule_of}
use Rattle.rule_laws.specs.RuleSystem.{IsCell}
use Rattle.order_laws.specs.Scales.{set_count, set_element}
use Rattle.order_laws.specs.Earlier.{most_excess, is_below, is_within}
use Rattle.ref_order.specs.Reads.{precedent_of}
use Rattle.late_example.specs.declared.search.Sought.{Sought}
use Rattle.late_example.specs.Example.{ReadsLate}

-- the first place, from this one on, that isn't within its bounds, where all before it are and none is below
abbrev pub late_from : (ℕ → Option ℤ) → ℕ → ℕ → Option ℕ
late_from most place zero = if is_below (most place) then None else Some place
late_from most place (suc count) = if is_below (most place)
    then None
    else if is_within (most place) then late_from most (suc place) count else Some place

-- whether what is read comes late for a cell of an area
abbrev pub comes_late : BoundModel → ℕ → Area → Bool → Precedent → ℕ → Bool
comes_late model cube area kind p position = if nat_lt position most_positions
    then not (is_within (most_excess model cube area kind p position))
    else not (is_below (most_excess model cube area kind p position))

abbrev pub is_sought : BoundModel → ℕ → Area → Sought → Bool
is_sought model cube area sought = comes_late model cube area sought.kind (precedent_of sought.read) sought.position

-- the elements of a set that stand from one place up to another
abbrev pub places_of : Option (List ℕ) → ℕ → ℕ → List ℕ
places_of set from to = map (set_element set) (range_with_len from (to - from))

abbrev pub set_at : Area → ℕ → Option (List ℕ)
set_at area dim = slice_index_or area.sets dim None

-- the area that has those alone in a dimension
abbrev pub narrowed : Area → ℕ → ℕ → ℕ → Area
narrowed area dim from to = record { sets = slice_set area.sets dim (Some (places_of (set_at area dim) from to)) }

-- with the element at this place of a dimension's set what is read comes late for a cell, and with none before it
pub record IsFirstPlace (model : BoundModel) (cube : ℕ) (area : Area) (sought : Sought) (dim place : ℕ) : Type 0 where
  pub within : place < set_count (slice_index_or (sizes model.space cube) dim 0) (set_at area dim)
  pub here : is_sought model cube (narrowed area dim place (suc place)) sought ≡ true
  pub before : is_sought model cube (narrowed area dim 0 place) sought ≡ false

-- the area that has it alone
abbrev pub IsWithFirst : BoundModel → ℕ → Area → Sought → ℕ → Area → Type 0
IsWithFirst model cube area sought dim narrow =
    (place : ℕ) × IsFirstPlace model cube area sought dim place × (narrow ≡ narrowed area dim place (suc place))

-- the rule that applies to the cells of an area of a cube
abbrev pub area_rule : BoundModel → ℕ → Area → Rule
area_rule model cube area =
    rule_of model.space cube (record { area = area; leaf = None; cons = None; form = Both })

-- a cell of an area for which what is read comes late
abbrev pub IsLateCell : BoundModel → ℕ → Area → Sought → ℕ → ℕ → Type 0
IsLateCell model cube area sought from to =
    ReadsLate model (area_rule model cube area) sought.kind (precedent_of sought.read) sought.position from to

-- a cell of an area
pub record IsInside (model : BoundModel) (cube : ℕ) (area : Area) (c : ℕ) : Type 0 where
  pub cell : IsCell (system_of model) c
  pub inside : applies (system_of model) c (area_rule model cube area) ≡ true

abbrev pub IsSingle : Option (List ℕ) → Type 0
IsSingle None = ⊥
IsSingle (Some listed) = length listed ≡ 1

-- an area is narrowed in the first dimensions, to one element in each: it has the first cell for which what is read
-- comes late
pub record IsNarrowed (model : BoundModel) (cube : ℕ) (area : Area) (sought : Sought) (dims : ℕ) (narrow : Area)
    : Type 0 where
  pub is_area : IsArea model.space cube narrow
  pub inside : (cell : ℕ) → IsInside model cube narrow cell → IsInside model cube area cell
  pub late : is_sought model cube narrow sought ≡ true
  pub single : (dim : ℕ) → dim < dims → IsSingle (set_at narrow dim)
  pub least : (from to : ℕ) → IsLateCell model cube area sought from to
      → IsInside model cube narrow from ⊎ ((cell : ℕ) → IsInside model cube narrow cell → cell < from)

-- the first element of a set that lists any
abbrev pub first_of : Option (List ℕ) → ℕ
first_of set = option_map_or (λ listed. slice_index_or listed 0 0) set 0
