-- Where a cell stands in the declared order.
use Rattle.std.specs.Prelude.{ℕ, suc, max, Bool, true, false, unwrap_or, List, [], ◌∷◌, map, slice_index_or, sum_by}
use Rattle.std.specs.List.{range_with_len, zip}
use Rattle.dim_core.specs.Outline.{level}
use Rattle.cube_space.specs.Layout.{Layout, axes}
use Rattle.cube_space.specs.Cells.{cube_of, elements_of, size_of, is_leaf_cell}
use Rattle.cube_space.specs.Radix.{number_of}
use Rattle.rule_model.specs.declared.order.Order.{Order}
use Rattle.rule_model.specs.declared.order.Position.{Position}
use Rattle.rule_model.specs.declared.order.Position.TheVariants.{Constant, Ranks}
use Rattle.rule_model.specs.BoundModel.{BoundModel, rules_of}

-- how many positions the order of a cube has at most; one that isn't declared has the number 0 for each cell
abbrev pub most_positions : ℕ
most_positions = 8

-- the positions of an order for cells of a kind, `true` for leaf cells
abbrev pub positions_for : Bool → Order → List Position
positions_for true order = order.positions
positions_for false order = unwrap_or order.totals order.positions

-- what an order has at a position for cells of a kind
abbrev pub position_in : Order → Bool → ℕ → Position
position_in order kind place = slice_index_or (positions_for kind order) place (Constant 0)

-- what the order of a cube has there
abbrev pub position_of : BoundModel → ℕ → Bool → ℕ → Position
position_of model cube kind place = position_in (rules_of model cube).order kind place

-- the number of a cell with these elements at a position
abbrev pub number_by : Position → List ℕ → ℕ
number_by (Constant number) elements = number
number_by (Ranks dim ranks) elements = slice_index_or ranks (slice_index_or elements dim 0) 0

-- the number of a cell at a position of the order
unfoldable pub number_at : BoundModel → ℕ → ℕ → ℕ
number_at model place cell =
    number_by (position_of model (cube_of model.space cell) (is_leaf_cell model.space cell) place)
    (elements_of model.space cell)

-- the greatest of these numbers, 0 where there are none
abbrev pub greatest : List ℕ → ℕ
greatest [] = 0
greatest (number ∷ numbers) = max number (greatest numbers)

-- the size of a position: one more than the greatest number that a cell of any cube has there
unfoldable pub position_size : BoundModel → ℕ → ℕ
position_size model place = suc (greatest (map (number_at model place) (range_with_len 0 (size_of model.space))))

-- the sizes of the positions, and the numbers of a cell at them
abbrev pub position_sizes : BoundModel → List ℕ
position_sizes model = map (position_size model) (range_with_len 0 most_positions)

abbrev pub numbers_of : BoundModel → ℕ → List ℕ
numbers_of model cell = map (λ place. number_at model place cell) (range_with_len 0 most_positions)

-- the greatest height of a declared order: how many ranks there are, the sizes of the positions multiplied
abbrev pub most_height : ℕ
most_height = 65536

-- the rank of a cell: its numbers at the positions, the first counting most, read as one number
unfoldable pub rank : BoundModel → ℕ → ℕ
rank model cell = number_of (position_sizes model) (numbers_of model cell)

-- the level of a cell: the levels of its elements together, so 0 of a leaf cell
unfoldable pub cell_level : Layout → ℕ → ℕ
cell_level space cell = sum_by (λ p. level p.0 p.1) (zip (axes space (cube_of space cell)) (elements_of space cell))

-- a number above the level of each cell
unfoldable pub level_count : Layout → ℕ
level_count space = suc (greatest (map (cell_level space) (range_with_len 0 (size_of space))))
