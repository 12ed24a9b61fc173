-- All cells in the order of their depth.
use Rattle.std.specs.Prelude.{◌≡◌, ℕ, ◌*◌, List, map, All, Contains}
use Rattle.std.specs.List.{range_with_len}
use Rattle.std.specs.List.Sorted.{IsNonDecreasingBy}
use Rattle.dim_core.specs.Outline.{most_elements}
use Rattle.cube_fixed.specs.declared.value.Value.{Value}
use Rattle.cube_space.specs.Cells.{IsCell, size_of}
use Rattle.rule_laws.specs.RuleSystem.{Stored, depth, dense_value}
use Rattle.rule_model.specs.BoundModel.{BoundModel}
use Rattle.rule_model.specs.System.{system_of}
use Rattle.rule_dense.specs.Inside.Plain.{table_of}

-- no cell has a greater level: it has at most 16 elements, each of a level below the most elements
abbrev pub most_levels : ℕ
most_levels = 16 * most_elements

-- a cell with its depth
abbrev pub with_depth : BoundModel → ℕ → ℕ × ℕ
with_depth model cell = (depth (system_of model) cell, cell)

-- all cells, each with its depth
abbrev pub AreDeep : BoundModel → List (ℕ × ℕ) → Type 0
AreDeep model pairs = pairs ≡ map (with_depth model) (range_with_len 0 (size_of model.space))

-- all cells, each with its depth, the less deep before the deeper
pub record IsByDepth (model : BoundModel) (pairs : List (ℕ × ℕ)) : Type 0 where
  pub deep : All (λ pair. IsCell model.space pair.1 × (pair.0 ≡ depth (system_of model) pair.1)) pairs
  pub each : (cell : ℕ) → IsCell model.space cell → Contains pairs (with_depth model cell)
  pub rising : IsNonDecreasingBy (λ pair. pair.0) pairs

-- each cell has its dense value
abbrev pub AreDense : BoundModel → Stored → List Value → Type 0
AreDense model stored values =
    (cell : ℕ) → IsCell model.space cell → table_of values cell ≡ dense_value (system_of model) stored cell
