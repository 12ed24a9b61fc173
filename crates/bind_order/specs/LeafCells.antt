-- Whether an order puts no leaf cell behind a consolidated cell in which it counts, by the elements of all cells.
use Rattle.std.specs.Prelude.{ℕ, ◌==◌, nat_lt, Bool, true, false, not, ◌&&◌, ◌||◌, List, [], ◌∷◌, map}
use Rattle.std.specs.List.{range_with_len, list_all}
use Rattle.dim_core.specs.Outline.{Outline}
use Rattle.dim_weights.specs.Table.{is_nonzero}
use Rattle.cube_space.specs.Layout.{sizes_of}
use Rattle.cube_space.specs.Cells.{are_leaves}
use Rattle.cube_space.specs.Radix.{all_digits}
use Rattle.rule_model.specs.declared.order.Order.{Order}
use Rattle.rule_model.specs.Weights.{coef_product}
use Rattle.rule_model.specs.Order.{most_positions, position_in, number_by}

-- the numbers that an order gives a cell of a kind, `true` for a leaf cell, with these elements
abbrev pub numbers_in : Order → Bool → List ℕ → List ℕ
numbers_in order kind elements =
    map (λ place. number_by (position_in order kind place) elements) (range_with_len 0 most_positions)

-- whether some numbers are smaller than others at the first place at which both differ, or are the same
abbrev pub is_at_most : List ℕ → List ℕ → Bool
is_at_most [] others = true
is_at_most (number ∷ numbers) [] = false
is_at_most (number ∷ numbers) (other ∷ others) =
    nat_lt number other || ((number == other) && is_at_most numbers others)

-- whether these are the elements of a consolidated cell, and of a leaf cell that counts in it
abbrev pub is_leaf_below : List Outline → List ℕ → List ℕ → Bool
is_leaf_below dimensions cell leaf =
    not (are_leaves dimensions cell) && are_leaves dimensions leaf && is_nonzero (coef_product dimensions cell leaf)

-- whether no leaf cell comes behind a consolidated cell in which it counts
unfoldable pub holds_leaf_cells : List Outline → Order → Bool
holds_leaf_cells dimensions order =
    list_all
    (λ cell.
    list_all
    (λ leaf.
    not (is_leaf_below dimensions cell leaf)
    || is_at_most (numbers_in order true leaf) (numbers_in order false cell))
    (all_digits (sizes_of dimensions)))
    (all_digits (sizes_of dimensions))
