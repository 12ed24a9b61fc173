-- The one feeder that covers a reference of a statement: the reference turned round.
use Rattle.std.specs.Prelude.{ℕ, suc, ◌==◌, Bool, ◌&&◌, Option, Some, None, option_map, option_and_then}
use Rattle.std.specs.Prelude.{if◌then◌else◌, List, [], ◌∷◌, length, map, slice_get, slice_index_or}
use Rattle.std.specs.List.{list_all, range_with_len}
use Rattle.std.specs.Option.{option_or, option_map_or}
use Rattle.cube_space.specs.Layout.{Layout, axes, dims_of}
use Rattle.rule_laws.specs.declared.reference.Reference.{Reference}
use Rattle.rule_laws.specs.declared.reference.Arg.{Arg}
use Rattle.rule_laws.specs.declared.reference.Arg.TheVariants.{Fixed, Moved}
use Rattle.rule_model.specs.declared.area.Area.{Area}
use Rattle.rule_model.specs.declared.rules.Feeder.{Feeder}
use Rattle.feed_turn.specs.Leaves.{set_leaves, over}
use Rattle.feed_turn.specs.Named.{named_set}
use Rattle.feed_turn.specs.Inverse.{inverse}
use Rattle.feed_turn.specs.Shift.{goes, short_form}

-- a reference that a statement of a cube has, from the area of the statement
pub record Turn : Type 0 where
  pub space : Layout
  pub cube : ℕ
  pub area : Area
  pub reference : Reference

-- the leaves that an area of a cube has in the dimension at a place, and the element over them
abbrev pub area_leaves : Layout → ℕ → Area → ℕ → List ℕ
area_leaves space cube area i =
    option_map_or (λ d. set_leaves d (slice_index_or area.sets i None)) (slice_get (axes space cube) i) []

abbrev pub area_over : Layout → ℕ → Area → ℕ → Option ℕ
area_over space cube area i =
    option_and_then (λ d. over d (area_leaves space cube area i)) (slice_get (axes space cube) i)

-- ---- the sources: what the reference names from the leaves of the area

-- the set of a feeder's area in the dimension which this argument names elements of
abbrev pub source_set : Turn → ℕ → Arg → Option (List ℕ)
source_set turn j (Fixed target) = Some (target ∷ [])
source_set turn j (Moved from to) =
    option_and_then (λ d. named_set d to (area_leaves turn.space turn.cube turn.area from))
    (slice_get (axes turn.space turn.reference.cube) j)

abbrev pub source_sets : Turn → ℕ → List Arg → List (Option (List ℕ))
source_sets turn j [] = []
source_sets turn j (arg ∷ args) = source_set turn j arg ∷ source_sets turn (suc j) args

unfoldable pub source_area : Turn → Area
source_area turn = record { sets = source_sets turn 0 turn.reference.args }

-- ---- the target: the way back, dimension by dimension of the statement's cube

-- whether the dimension at a place of the statement's cube is the one at a place of the reference's cube
abbrev pub is_shared : Turn → ℕ → ℕ → Bool
is_shared turn i j =
    slice_index_or (dims_of turn.space turn.cube) i 0 == slice_index_or (dims_of turn.space turn.reference.cube) j 0

-- whether a map sends each element to itself
abbrev pub keeps_each : List (Option ℕ) → Bool
keeps_each to = list_all (λ element. goes to element (Some element)) (range_with_len 0 (length to))

-- whether elements of a dimension that both cubes have are kept
abbrev pub is_kept : Turn → ℕ → ℕ → List (Option ℕ) → Bool
is_kept turn i j to = is_shared turn i j && keeps_each to

-- the map back from the dimension that this map goes to
abbrev pub inverse_at : Turn → ℕ → ℕ → List (Option ℕ) → Option (List (Option ℕ))
inverse_at turn i j to =
    option_and_then (λ d. inverse d to (area_leaves turn.space turn.cube turn.area i))
    (slice_get (axes turn.space turn.reference.cube) j)

-- the same map where elements are kept, else its inverse
unfoldable pub map_back : Turn → ℕ → ℕ → List (Option ℕ) → Option (List (Option ℕ))
map_back turn i j to = if is_kept turn i j to then Some to
    else option_map (short_form (is_shared turn i j)) (inverse_at turn i j to)

-- the way back to a dimension by the argument at a place, if it follows that dimension
abbrev pub way_back : Turn → ℕ → ℕ → Arg → Option Arg
way_back turn i j (Fixed target) = None
way_back turn i j (Moved from to) = if from == i then option_map (Moved j) (map_back turn i j to) else None

-- by the first argument that has one
abbrev pub first_way : Turn → ℕ → ℕ → List Arg → Option Arg
first_way turn i j [] = None
first_way turn i j (arg ∷ args) = option_or (way_back turn i j arg) (first_way turn i (suc j) args)

-- where there is none, the element over the leaves of the area
abbrev pub target_arg : Turn → ℕ → Option Arg
target_arg turn i = option_or (first_way turn i 0 turn.reference.args)
    (option_map Fixed (area_over turn.space turn.cube turn.area i))

-- all of them, if none is missing
abbrev pub all_found : List (Option Arg) → Option (List Arg)
all_found [] = Some []
all_found (None ∷ args) = None
all_found (Some arg ∷ args) = option_map (λ rest. arg ∷ rest) (all_found args)

unfoldable pub target_args : Turn → Option (List Arg)
target_args turn = all_found (map (target_arg turn) (range_with_len 0 (length (axes turn.space turn.cube))))

-- the feeder of the reference's cube, which counts as one of the feeder statement of this number
abbrev pub feeder_to : Turn → ℕ → List Arg → Feeder
feeder_to turn statement args = record {
  area = source_area turn;
  target = record { cube = turn.cube; args = args };
  statement = statement;
}

unfoldable pub turned_feeder : Turn → ℕ → Option Feeder
turned_feeder turn statement = option_map (feeder_to turn statement) (target_args turn)
