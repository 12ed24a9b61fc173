-- What an order line says of an order that is found: its lag, and whether kinds of cells are told apart.
use Rattle.std.specs.Prelude.{ℕ, ◌+◌, nat_lt, if◌then◌else◌, List, [], ◌∷◌, length, map}
use Rattle.std.specs.Prelude.{Option, Some, None, option_map, option_and_then, option_to_list}
use Rattle.dim_core.specs.Outline.{Outline}
use Rattle.cube_space.specs.Axes.{axis_called}
use Rattle.model_text.specs.declared.order.OrderWord.{OrderWord}
use Rattle.model_text.specs.declared.order.OrderWord.TheVariants as words
use Rattle.rule_model.specs.declared.order.Order.{Order}
use Rattle.rule_model.specs.declared.order.Position.{Position}
use Rattle.bind_order.specs.Orders.{index_position, plain_order, equal_order}
use Rattle.bind_order.specs.declared.lag.Lag.{Lag}

-- the place of the dimension of this name, where it is one of the cube's and not its last
abbrev pub lag_called : List Outline → List ℕ → Option ℕ
lag_called dimensions name =
    option_and_then (λ place. if nat_lt (place + 1) (length dimensions) then Some place else None)
    (axis_called dimensions name)

-- the place of the dimension that a line names, if it names one; None where it may not name it
abbrev pub lag_place : List Outline → Option (List ℕ) → Option (Option ℕ)
lag_place dimensions None = Some None
lag_place dimensions (Some name) = option_map (λ place. Some place) (lag_called dimensions name)

-- what a word says, which is `AUTO`; None where it may not stand
abbrev pub lag_by : List Outline → OrderWord → Option Lag
lag_by dimensions (words.Constant number) = None
lag_by dimensions (words.Index name) = None
lag_by dimensions (words.Ranks name list) = None
lag_by dimensions (words.RanksByKind name leaves totals) = None
lag_by dimensions words.Totals = None
lag_by dimensions (words.Auto totals name) =
    option_map (λ place. record { totals = totals; place = place }) (lag_place dimensions name)

-- what the words of an order line say, of which there is one
abbrev pub lag_of : List Outline → List OrderWord → Option Lag
lag_of dimensions [] = None
lag_of dimensions (word ∷ []) = lag_by dimensions word
lag_of dimensions (word ∷ next ∷ rest) = None

-- the positions of a lag alone: the index of the elements of its dimension
abbrev pub lag_positions : List Outline → Option ℕ → List Position
lag_positions dimensions place = map (index_position dimensions) (option_to_list place)

-- the order of a lag alone; with `TOTALS`, leaf cells and consolidated cells have lists of their own
abbrev pub lag_order : List Outline → Lag → Order
lag_order dimensions lag =
    if lag.totals then equal_order (lag_positions dimensions lag.place)
    else plain_order (lag_positions dimensions lag.place)
