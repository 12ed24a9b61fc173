-- The order that an order line means which tells leaf cells and consolidated cells apart.
use Rattle.std.specs.Prelude.{ℕ, nat_le, true, false, if◌then◌else◌, List, map}
use Rattle.std.specs.Prelude.{Option, Some, None, option_map, option_and_then, slice_get}
use Rattle.dim_core.specs.Outline.{Outline}
use Rattle.cube_space.specs.Layout.{Layout, axes}
use Rattle.cube_space.specs.Axes.{axis_called}
use Rattle.model_text.specs.declared.order.OrderWord.{OrderWord}
use Rattle.model_text.specs.declared.order.OrderWord.TheVariants as words
use Rattle.rule_model.specs.declared.order.Order.{Order}
use Rattle.rule_model.specs.declared.order.Position.{Position}
use Rattle.rule_model.specs.declared.order.Position.TheVariants as positions
use Rattle.bind_order.specs.declared.by_kind.PositionByKind.{PositionByKind}
use Rattle.bind_order.specs.declared.by_kind.PositionByKind.TheVariants.{Constants, Ranks}
use Rattle.bind_order.specs.Ranks.{most_written, all_of, ranks_by_index, filled_ranks, plain_ranks}
use Rattle.bind_order.specs.LeafCells.{holds_leaf_cells}

-- the position by these ranks, for cells of both kinds
abbrev pub same_ranks : ℕ → List ℕ → PositionByKind
same_ranks place ranks = Ranks place ranks ranks

-- the position by a list for leaf cells and one for consolidated cells; None where one of both is bad
abbrev pub two_ranks : ℕ → List (List ℕ × ℕ) → List (List ℕ × ℕ) → Outline → Option PositionByKind
two_ranks place leaves totals dimension =
    option_and_then (λ leaf. option_map (λ total. Ranks place leaf total) (plain_ranks true totals dimension))
    (plain_ranks false leaves dimension)

-- the position that a dimension means by what makes ranks of it
abbrev pub position_named : List Outline → (ℕ → Outline → Option PositionByKind) → List ℕ → Option PositionByKind
position_named dimensions made name =
    option_and_then (λ place. option_and_then (made place) (slice_get dimensions place)) (axis_called dimensions name)

-- the position that a word means, for cells of each kind; None where it is bad
abbrev pub position_by_kind : List Outline → OrderWord → Option PositionByKind
position_by_kind dimensions (words.Constant number) =
    if nat_le number most_written then Some (Constants number number) else None
position_by_kind dimensions (words.Index name) =
    position_named dimensions (λ place dimension. Some (same_ranks place (ranks_by_index dimension))) name
position_by_kind dimensions (words.Ranks name list) =
    position_named dimensions (λ place dimension. option_map (same_ranks place) (filled_ranks list dimension)) name
position_by_kind dimensions (words.RanksByKind name leaves totals) =
    position_named dimensions (λ place. two_ranks place leaves totals) name
position_by_kind dimensions words.Totals = Some (Constants 0 1)
position_by_kind dimensions (words.Auto totals lag) = None

-- what a position is for leaf cells, and for consolidated cells
abbrev pub leaf_position : PositionByKind → Position
leaf_position (Constants leaf total) = positions.Constant leaf
leaf_position (Ranks dim leaf total) = positions.Ranks dim leaf

abbrev pub total_position : PositionByKind → Position
total_position (Constants leaf total) = positions.Constant total
total_position (Ranks dim leaf total) = positions.Ranks dim total

-- the order of these positions
abbrev pub kinds_order : List PositionByKind → Order
kinds_order list = record { positions = map leaf_position list; totals = Some (map total_position list) }

-- the order that words mean; None where one is bad, or a leaf cell would come behind a consolidated cell in which it
-- counts
abbrev pub order_by_kind : Layout → ℕ → List OrderWord → Option Order
order_by_kind space cube words =
    option_and_then
    (λ list. if holds_leaf_cells (axes space cube) (kinds_order list) then Some (kinds_order list) else None)
    (all_of (map (position_by_kind (axes space cube)) words))
