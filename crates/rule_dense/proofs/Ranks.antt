-- The rank of a cell, one position after another.
use Rattle.std.proofs.Common.{◌≡◌, refl, sym, ◌∙◌, ap, subst, arith, ℕ, ◌+◌, ◌*◌, ◌<◌, ◌≤◌, true, List, length, get_or, drop}
use Rattle.cube_space.specs.Cells.{IsCell}
use Rattle.cube_space.specs.Radix.{product, are_digits, number_of}
use Rattle.cube_space.proofs.Radix.{number-below, digits-length}
use Rattle.cube_space.proofs.Steps.{number-so_far}
use Rattle.rule_model.specs.BoundModel.{BoundModel}
use Rattle.rule_model.specs.Order.{most_height, most_positions, number_at, position_sizes, numbers_of, rank}
use Rattle.model_laws.proofs.Ranks.{digits-of, number-of, positions-many}
use Rattle.rule_dense.specs.Limits.{IsLow}

module _ (m : BoundModel) (cell : ℕ) (is_cell : IsCell m.space cell) (low : IsLow m) where
  pub rank-low : rank m cell < most_height
  unfolding rank
  rank-low = omega (arith, number-below (position_sizes m) (numbers_of m cell) (digits-of m cell is_cell), low)

  module _ (sizes : List ℕ) (is : sizes ≡ position_sizes m) where
    pub digits-are : are_digits sizes (numbers_of m cell) ≡ true
    digits-are = ap (λ s. are_digits s (numbers_of m cell)) is ∙ digits-of m cell is_cell

    -- the rank so far is no greater than the whole
    pub rank-so_far : (place so_far number : ℕ) → place < length sizes → number ≡ number_at m place cell → are_digits (drop place sizes) (drop place (numbers_of m cell)) ≡ true
        → so_far * product (drop place sizes) + number_of (drop place sizes) (drop place (numbers_of m cell)) ≡ number_of sizes (numbers_of m cell)
        → so_far * get_or sizes place 0 + number < most_height
    rank-so_far place so_far number within own are so =
        let many : length sizes ≡ most_positions = ap length is ∙ positions-many m in
        let here : number ≡ get_or (numbers_of m cell) place 0 = own ∙ sym (number-of m cell place (omega (arith, within, many))) in
        let count = digits-length sizes (numbers_of m cell) digits-are in
        let least = number-so_far sizes (numbers_of m cell) place so_far (number_of sizes (numbers_of m cell)) (get_or sizes place 0) number refl here within (omega (arith, within, count)) are so in
        let whole = number-below sizes (numbers_of m cell) digits-are in
        let height : product sizes ≤ most_height = subst (λ s. product s ≤ most_height) (sym is) low in
        omega (arith, least, whole, height)
