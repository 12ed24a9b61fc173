-- The greatest numbers at a position, cube by cube: of leaf cells, and of consolidated cells.
use Rattle.std.specs.Prelude.{ℕ, max, ◌==◌, ◌&&◌, ◌||◌, Bool, true, false, not, Option, Some, None, List, length, map}
use Rattle.std.specs.Prelude.{slice_get, slice_index_or, if◌then◌else◌}
use Rattle.std.specs.List.{range_with_len, list_any}
use Rattle.std.specs.Option.{option_map_or}
use Rattle.dim_core.specs.Outline.{Outline}
use Rattle.cube_space.specs.Layout.{axes}
use Rattle.cube_space.specs.Cells.{cell_count, is_leaf}
use Rattle.rule_model.specs.declared.order.Position.{Position}
use Rattle.rule_model.specs.declared.order.Position.TheVariants.{Constant, Ranks}
use Rattle.rule_model.specs.BoundModel.{BoundModel}
use Rattle.rule_model.specs.Order.{greatest, position_of}
use Rattle.check_order.specs.declared.tops.Which.{Which}
use Rattle.check_order.specs.declared.tops.Which.TheVariants.{All, Leaves, Totals}

-- whether an element is taken
abbrev pub is_taken : Which → Outline → ℕ → Bool
is_taken All dimension element = true
is_taken Leaves dimension element = is_leaf dimension element
is_taken Totals dimension element = not (is_leaf dimension element)

-- whether a dimension has a consolidated element
abbrev pub has_total : Outline → Bool
has_total dimension = list_any (is_taken Totals dimension) (range_with_len 0 (length dimension.elements))

abbrev pub has_total_at : List Outline → ℕ → Bool
has_total_at dimensions dim = option_map_or has_total (slice_get dimensions dim) false

abbrev pub is_at : ℕ → Option ℕ → Bool
is_at dim None = false
is_at dim (Some place) = dim == place

-- whether one of these dimensions has a consolidated element, other than the dimension at the given place
abbrev pub has_total_elsewhere : List Outline → Option ℕ → Bool
has_total_elsewhere dimensions place =
    list_any (λ dim. not (is_at dim place) && has_total_at dimensions dim) (range_with_len 0 (length dimensions))

-- the elements that cells of a kind have in the dimension at a place, `true` for leaf cells: a consolidated cell has
-- any element where another dimension has a consolidated one
abbrev pub which_of : List Outline → Bool → ℕ → Which
which_of dimensions true dim = Leaves
which_of dimensions false dim = if has_total_elsewhere dimensions (Some dim) then All else Totals

-- the greatest rank of the elements that are taken
abbrev pub taken_rank : Which → Outline → List ℕ → ℕ → ℕ
taken_rank which dimension ranks element =
    if is_taken which dimension element then slice_index_or ranks element 0 else 0

abbrev pub greatest_taken : Which → Outline → List ℕ → ℕ
greatest_taken which dimension ranks =
    greatest (map (taken_rank which dimension ranks) (range_with_len 0 (length dimension.elements)))

-- the greatest number that cells of a kind have at a position, where there are cells
abbrev pub position_top : List Outline → Bool → Position → ℕ
position_top dimensions kind (Constant number) = if kind || has_total_elsewhere dimensions None then number else 0
position_top dimensions kind (Ranks dim ranks) =
    option_map_or (λ dimension. greatest_taken (which_of dimensions kind dim) dimension ranks)
    (slice_get dimensions dim) 0

abbrev pub kind_top : BoundModel → ℕ → ℕ → Bool → ℕ
kind_top m place cube kind = position_top (axes m.space cube) kind (position_of m cube kind place)

-- the greatest number of a cube's cells, 0 where it has none
abbrev pub cube_top : BoundModel → ℕ → ℕ → ℕ
cube_top m place cube =
    if cell_count m.space cube == 0 then 0 else max (kind_top m place cube true) (kind_top m place cube false)

abbrev pub cube_tops : BoundModel → ℕ → ℕ → ℕ → List ℕ
cube_tops m place from count = map (cube_top m place) (range_with_len from count)

abbrev pub top : BoundModel → ℕ → ℕ
top m place = greatest (cube_tops m place 0 (length m.space.cubes))
