-- What a cell has at a position of the order and as its level, by its elements, and what a reference makes of it.
use Rattle.std.specs.Prelude.{◌≡◌, ℕ, suc, ◌+◌, ◌==◌, Bool, true, false, not, nat_lt, if◌then◌else◌, ℤ, pos}
use Rattle.std.specs.Prelude.{Option, Some, None, option_map, unwrap_or, List, [], ◌∷◌, length, slice_get}
use Rattle.std.specs.Prelude.{slice_index_or}
use Rattle.std.specs.Option.{option_map_or}
use Rattle.dim_core.specs.Outline.{Outline, level, components_of}
use Rattle.cube_space.specs.Layout.{axes}
use Rattle.cube_space.specs.Cells.{is_leaf}
use Rattle.rule_laws.specs.declared.reference.Arg.{Arg}
use Rattle.rule_laws.specs.declared.reference.Arg.TheVariants.{Fixed, Moved}
use Rattle.rule_model.specs.declared.order.Position.{Position}
use Rattle.rule_model.specs.declared.order.Position.TheVariants.{Constant, Ranks}
use Rattle.rule_model.specs.BoundModel.{BoundModel}
use Rattle.rule_model.specs.Order.{most_positions, position_of}
use Rattle.order_laws.specs.Greatest.{plus, greatest, only}

-- what a cell has at a position or as its level: a base, and what its element in each dimension adds
pub record Scale : Type 0 where
  pub base : ℕ
  pub worth : ℕ → ℕ → ℕ

abbrev pub rank_at : List ℕ → ℕ → ℕ → ℕ → ℕ
rank_at ranks dim i element = if i == dim then slice_index_or ranks element 0 else 0

abbrev pub position_scale : Position → Scale
position_scale (Constant number) = record { base = number; worth = λ i element. 0 }
position_scale (Ranks dim ranks) = record { base = 0; worth = rank_at ranks dim }

abbrev pub level_in : List Outline → ℕ → ℕ → ℕ
level_in dimensions i element = option_map_or (λ d. level d element) (slice_get dimensions i) 0

abbrev pub level_scale : List Outline → Scale
level_scale dimensions = record { base = 0; worth = level_in dimensions }

-- the scale of the cells of a cube of a kind, `true` for leaf cells, at a position of the order, and at the place after
-- the last one that of the levels
unfoldable pub scale_of : BoundModel → ℕ → Bool → ℕ → Scale
scale_of model cube kind place = if nat_lt place most_positions then position_scale (position_of model cube kind place)
    else level_scale (axes model.space cube)

-- what cells of a cube have at a position, or as their level, doesn't rest on their kind
abbrev pub HasOneScale : BoundModel → ℕ → ℕ → Type 0
HasOneScale model cube place = scale_of model cube false place ≡ scale_of model cube true place

-- what the fixed arguments of a reference add, from this argument on
abbrev pub fixed_sum : (ℕ → ℕ → ℕ) → ℕ → List Arg → ℕ
fixed_sum worth j [] = 0
fixed_sum worth j (Fixed element ∷ args) = worth j element + fixed_sum worth (suc j) args
fixed_sum worth j (Moved from to ∷ args) = fixed_sum worth (suc j) args

-- what an element of a dimension of the source adds to the target by the arguments that follow that dimension; None
-- where one of them names nothing from it
abbrev pub moved_sum : (ℕ → ℕ → ℕ) → ℕ → List Arg → ℕ → ℕ → Option ℤ
moved_sum worth j [] i element = Some (pos 0)
moved_sum worth j (Fixed fixed ∷ args) i element = moved_sum worth (suc j) args i element
moved_sum worth j (Moved from to ∷ args) i element = if i == from
    then plus (option_map (λ target. pos (worth j target)) (unwrap_or (slice_get to element) None))
    (moved_sum worth (suc j) args i element)
    else moved_sum worth (suc j) args i element

abbrev pub parts_in : List Outline → ℕ → ℕ → List (ℕ × ℤ)
parts_in dimensions i element = option_map_or (λ d. components_of d element) (slice_get dimensions i) []

-- the elements that a set of an area has in a dimension of this size: how many, and which is at a place
abbrev pub set_count : ℕ → Option (List ℕ) → ℕ
set_count size None = size
set_count size (Some listed) = length listed

abbrev pub set_element : Option (List ℕ) → ℕ → ℕ
set_element None place = place
set_element (Some listed) place = slice_index_or listed place 0

-- whether an element of a dimension of a cube is consolidated
abbrev pub is_total : List Outline → ℕ → ℕ → Bool
is_total dimensions i element = option_map_or (λ d. not (is_leaf d element)) (slice_get dimensions i) false

-- the greatest number of the elements of a set that pass
abbrev pub greatest_in : (ℕ → Option ℤ) → (ℕ → Bool) → ℕ → Option (List ℕ) → Option ℤ
greatest_in number test size set =
    greatest (λ k. only (test (set_element set k)) (number (set_element set k))) (set_count size set)

abbrev pub is_leaf_element : List Outline → ℕ → ℕ → Bool
is_leaf_element dimensions i element = not (is_total dimensions i element)
