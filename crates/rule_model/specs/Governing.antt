-- Which statement governs a cell.
use Rattle.std.specs.Prelude.{ℕ, Bool, List, Option, is_some}
use Rattle.cube_space.specs.Cells.{cube_of}
use Rattle.rule_laws.specs.declared.formula.Formula.{Formula}
use Rattle.rule_laws.specs.RuleSystem.{Rule, part_at, governing_among, formula_among}
use Rattle.rule_model.specs.BoundModel.{BoundModel}
use Rattle.rule_model.specs.System.{system_of, cube_rules}

-- the statements of a cell's cube, in their order
abbrev pub rules_for : BoundModel → ℕ → List Rule
rules_for model cell = cube_rules model (cube_of model.space cell)

-- whether a statement governs a cell where none before it does: the cell is in its area, and it has a part for the
-- cell's kind
abbrev pub has_part : BoundModel → ℕ → Rule → Bool
has_part model cell rule = is_some (part_at (system_of model) cell rule)

-- the first statement, by its place among those of the cell's cube from this place on, that has a part for the cell
unfoldable pub governing_from : BoundModel → ℕ → ℕ → Option ℕ
governing_from model cell place = governing_among (system_of model) (rules_for model cell) cell place

-- the formula that the statement at a place of the cell's cube has for the cell
abbrev pub formula_at : BoundModel → ℕ → ℕ → Option Formula
formula_at model cell place = formula_among (system_of model) (rules_for model cell) cell place
