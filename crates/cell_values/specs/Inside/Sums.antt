-- Sums that go on.
use Rattle.std.specs.Prelude.{◌≡◌, ℕ, ◌+◌, ◌≤◌, ◌^◌, ℤ, List, ◌∷◌, length, fold, All, unsigned_abs}
use Rattle.cell_versions.specs.Versions.{NumberedVersion}
use Rattle.cube_fixed.specs.declared.value.Value.{Value}
use Rattle.cube_fixed.specs.Total.{Total, with_term, value_of}
use Rattle.cube_space.specs.Cells.{IsCell}
use Rattle.rule_evaluate.specs.declared.ask.Ask.{Ask}
use Rattle.rule_model.specs.Weights.{most_weight_product}
use Rattle.cell_values.specs.Reading.{value_on, IsUngoverned}
use Rattle.cell_values.specs.Inside.Questions.{answer_on, values_of, cost_on}

-- what a sum has by the terms so far, and those of these cells
unfoldable pub sum_on : NumberedVersion → Total → List (ℕ × ℤ) → Value
sum_on version total pairs = value_of (fold (λ sum pair. with_term sum pair.1 (value_on version pair.0)) total pairs)

-- the terms so far and those of these cells make up the answer to a question
pub record IsSum (version : NumberedVersion) (total : Total) (pairs : List (ℕ × ℤ)) (question : Ask) : Type 0 where
  pub sum : sum_on version total pairs ≡ answer_on version question
  pub room : total.terms + length pairs ≤ 2 ^ 32

-- a sum went on, from the first terms and cells to the second ones
pub record Advances (version : NumberedVersion) (before : Total) (pairs : List (ℕ × ℤ)) (after : Total)
    (rest : List (ℕ × ℤ)) : Type 0 where
  pub sum : sum_on version after rest ≡ sum_on version before pairs
  pub terms : after.terms + length rest ≤ before.terms + length pairs
  pub cost : cost_on version (values_of rest) ≤ cost_on version (values_of pairs)
  pub plain : All (λ pair. IsUngoverned version pair.0) pairs → All (λ pair. IsUngoverned version pair.0) rest

-- it went on up to a cell, whose value has to be worked out
pub record Stops (version : NumberedVersion) (before : Total) (pairs : List (ℕ × ℤ)) (after : Total) (weight : ℤ)
    (rest : List (ℕ × ℤ)) (cell : ℕ) : Type 0 where
  pub is_cell : IsCell version.model.space cell
  pub size : unsigned_abs weight ≤ most_weight_product
  pub advances : Advances version before pairs after ((cell, weight) ∷ rest)
