-- The order that an order line means.
use Rattle.std.specs.Prelude.{◌≡◌, ⊤, ℕ, nat_le, nat_lt, if◌then◌else◌, List, [], length, map, slice_get}
use Rattle.std.specs.Prelude.{Option, Some, None, option_map, option_and_then, Result, Ok, Err}
use Rattle.std.specs.Option.{option_map_or}
use Rattle.dim_core.specs.Outline.{Outline}
use Rattle.cube_space.specs.Layout.{Layout, axes}
use Rattle.cube_space.specs.Axes.{axis_called}
use Rattle.model_text.specs.declared.order.OrderLine.{OrderLine}
use Rattle.model_text.specs.declared.order.OrderWord.{OrderWord}
use Rattle.model_text.specs.declared.order.OrderWord.TheVariants as words
use Rattle.model_text.specs.Orders.{has_kinds}
use Rattle.rule_model.specs.declared.order.Order.{Order}
use Rattle.rule_model.specs.declared.order.Position.{Position}
use Rattle.rule_model.specs.declared.order.Position.TheVariants as positions
use Rattle.rule_model.specs.Order.{most_positions}
use Rattle.bind_order.specs.declared.fault.BindOrderFault.{BindOrderFault}
use Rattle.bind_order.specs.declared.fault.BindOrderFault.TheVariants.{BadOrder, Memory}
use Rattle.bind_order.specs.Ranks.{most_written, all_of, ranks_by_index, list_ranks}
use Rattle.bind_order.specs.ByKind.{order_by_kind}

-- the position by the ranks of the dimension at a place
abbrev pub position_by : List Outline → (Outline → Option (List ℕ)) → ℕ → Option Position
position_by dimensions ranks place =
    option_map (positions.Ranks place) (option_and_then ranks (slice_get dimensions place))

-- the position of the dimension at a place alone
abbrev pub index_position : List Outline → ℕ → Position
index_position dimensions place =
    positions.Ranks place (option_map_or ranks_by_index (slice_get dimensions place) [])

-- the position of a dimension with a list
abbrev pub list_position : List Outline → ℕ → List (List ℕ × ℕ) → Option ℕ → Option Position
list_position dimensions version list place = option_and_then (position_by dimensions (list_ranks version list)) place

-- the position that a word of an order line means which tells no kinds of cells apart; None where it is bad
abbrev pub position_of : Layout → ℕ → ℕ → OrderWord → Option Position
position_of space cube version (words.Constant number) =
    if nat_le number most_written then Some (positions.Constant number) else None
position_of space cube version (words.Index name) =
    option_map (index_position (axes space cube)) (axis_called (axes space cube) name)
position_of space cube version (words.Ranks name list) =
    list_position (axes space cube) version list (axis_called (axes space cube) name)
position_of space cube version (words.RanksByKind name leaves totals) = None
position_of space cube version words.Totals = None
position_of space cube version (words.Auto totals lag) = None

-- the order of these positions, for cells of both kinds
abbrev pub plain_order : List Position → Order
plain_order list = record { positions = list; totals = None }

-- the order of these positions, of which leaf cells and consolidated cells have a list each
abbrev pub equal_order : List Position → Order
equal_order list = record { positions = list; totals = Some list }

-- the order that words mean which tell no kinds of cells apart; None where one is bad
abbrev pub order_by : Layout → ℕ → ℕ → List OrderWord → Option Order
order_by space cube version list = option_map plain_order (all_of (map (position_of space cube version) list))

-- the order that a line means; None where it has too many positions or a bad one, or where a leaf cell would come
-- behind a consolidated cell in which it counts
abbrev pub order_of : Layout → ℕ → OrderLine → Option Order
order_of space cube line =
    if nat_lt most_positions (length line.words) then None
    else if has_kinds line.words then order_by_kind space cube line.words
    else order_by space cube line.version line.words

-- an answer for this cube is the order, and it is bad exactly where there is none; out of memory may come in its place
abbrev pub IsAnsweredBy : Option Order → ℕ → Result Order BindOrderFault → Type 0
IsAnsweredBy bound cube (Ok order) = bound ≡ Some order
IsAnsweredBy bound cube (Err (BadOrder at)) = (bound ≡ None) × (at ≡ cube)
IsAnsweredBy bound cube (Err Memory) = ⊤
