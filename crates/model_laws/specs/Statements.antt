-- The statements of a cell's cube, by their places among them.
use Rattle.std.specs.Prelude.{ℕ, length, drop}
use Rattle.std.specs.List.{flat_map, range_with_len}
use Rattle.cube_fixed.specs.declared.value.Value.{Value}
use Rattle.cube_space.specs.Cells.{cube_of}
use Rattle.rule_laws.specs.RuleSystem.{Stored, value_by}
use Rattle.rule_model.specs.BoundModel.{BoundModel}
use Rattle.rule_model.specs.System.{system_of, cube_rules}
use Rattle.rule_model.specs.Governing.{rules_for}

-- how many statements the cubes before the cell's have
unfoldable pub statements_before : BoundModel → ℕ → ℕ
statements_before m c = length (flat_map (cube_rules m) (range_with_len 0 (cube_of m.space c)))

-- what the statements of the cell's cube from this place on give the cell
abbrev pub value_by_cube : BoundModel → Stored → (ℕ → Value) → ℕ → ℕ → Value
value_by_cube m stored table c n = value_by (system_of m) stored table c (drop n (rules_for m c))
